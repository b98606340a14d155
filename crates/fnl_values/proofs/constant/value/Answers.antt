use Rattle.std.proofs.Common.{sym, subst}
use Rattle.std.specs.Prelude.{Some}
use Rattle.cal_ast.specs.Places.{begins}
use Rattle.cal_ast.specs.View.{expr_tree}
use Rattle.cal_model.specs.Kinding.{constant}
use Rattle.cal_model.specs.View.{kind_view, value_view}
use Rattle.const_env.specs.Held.{names_in}
use Rattle.const_env.specs.Judging.{Judges}
use Rattle.fnl_values.proofs.Constants.{judges_some, value_as}
use Rattle.fnl_values.specs.Judging.{outcome_judged}
use Rattle.fnl_values.proofs.constant.value.Goals as goal

pub returns : goal.returns
returns c =
    subst (Judges (λ v. Some (value_view v)) c.outcome.result)
    (sym (value_as c.constants_are_values.ensures c.args.env.now (expr_tree c.args.e.now) (kind_view c.in_ok-kind_const.field-0) c.requires c.in_ok-kind_const.ensures.kind))
    (judges_some c.outcome.result (outcome_judged (constant (expr_tree c.args.e.now) (names_in c.args.env.now)) (begins (expr_tree c.args.e.now))) c.outcome.ensures)
