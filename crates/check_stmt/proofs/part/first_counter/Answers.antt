use Rattle.std.proofs.Common.{sym, ap, subst}
use Rattle.cal_ast.specs.Places.{begins}
use Rattle.cal_ast.specs.View.{type_tree}
use Rattle.cal_model.specs.Kinding.{and_so, counts}
use Rattle.cal_model.specs.View.{shape_view}
use Rattle.const_env.specs.Judging.{Judges}
use Rattle.cal_check.specs.Violations.{broken}
use Rattle.check_stmt.specs.Judging.{Checks}
use Rattle.check_stmt.proofs.Checked.{checks_judged}
use Rattle.check_stmt.proofs.part.first_counter.Goals as goal

pub returns : goal.returns
returns c =
    subst (λ o. Checks c.counts.result (broken o)) (sym (ap (λ o. and_so o (λ t. counts t (begins (type_tree c.args.shape.now)))) c.in_ok-t.ensures.judged))
    (checks_judged (λ _. shape_view c.in_ok-t.t) c.counts.result (counts (shape_view c.in_ok-t.t) (begins (type_tree c.args.shape.now)))
    (subst (λ n. Judges (λ _. shape_view c.in_ok-t.t) c.counts.result (counts (shape_view c.in_ok-t.t) n)) c.place_of_type.ensures c.counts.ensures))
