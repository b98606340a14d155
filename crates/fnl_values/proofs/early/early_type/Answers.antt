use Rattle.std.proofs.Common.{subst}
use Rattle.cal_ast.specs.View.{type_tree}
use Rattle.cal_model.specs.Kinding.{type_judged}
use Rattle.const_env.specs.Held.{names_in}
use Rattle.const_env.specs.Judging.{Breaks}
use Rattle.fnl_values.proofs.early.early_type.Goals as goal

pub returns-in-Err-clause-judged : goal.returns-in-Err-clause-judged
returns-in-Err-clause-judged c =
    c.late_in_type.ensures (type_judged (type_tree c.args.t.now) (names_in c.args.env.now))
    (subst (λ n. Breaks c.in-Err.fault (type_judged (type_tree c.args.t.now) n)) c.outermost.ensures c.in-Err.ensures.judged)
