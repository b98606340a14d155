use Rattle.std.proofs.Common.{◌≡◌, sym, ap, ◌∙◌, rules}
use Rattle.rvc_base.specs.Rules.{constant_traps, not_constant}
use Rattle.cal_ast.specs.Places.{begins}
use Rattle.cal_ast.specs.View.{expr_tree}
use Rattle.cal_model.specs.Kinding.{Broken}
use Rattle.cal_model.specs.Outcome.{Traps}
use Rattle.cal_model.specs.View.{value_view}
use Rattle.const_expr.specs.Evaluable.{HasNoValue, value_of}
use Rattle.const_env.specs.Held.{held}
use Rattle.fnl_values.proofs.Constants.{constant_is, gives, has_none}
use Rattle.fnl_values.specs.Judging.{outcome_judged}
use Rattle.fnl_values.proofs.constant.outcome.Goals as goal

pub returns-in-Ok : goal.returns-in-Ok
returns-in-Ok c =
    ap (λ o. outcome_judged o (begins (expr_tree c.args.e.now))) (constant_is c.constants_are_values.ensures (expr_tree c.args.e.now) c.args.env.now)
    ∙ gives (value_of (expr_tree c.args.e.now) (held c.args.env.now)) (begins (expr_tree c.args.e.now)) (value_view c.in-Ok.value) c.in-Ok.ensures.value

pub returns-in-Err-Trap : goal.returns-in-Err-Trap
returns-in-Err-Trap c =
    let traps : value_of (expr_tree c.args.e.now) (held c.args.env.now) ≡ Traps c.in-Err-Trap.field-0-0 = search rules in
    ap (λ o. outcome_judged o (begins (expr_tree c.args.e.now))) (constant_is c.constants_are_values.ensures (expr_tree c.args.e.now) c.args.env.now ∙ traps)
    ∙ ap (λ p. Broken constant_traps p) (sym c.place_of-at.ensures)

pub returns-in-Err-NotConstant : goal.returns-in-Err-NotConstant
returns-in-Err-NotConstant c =
    let none : HasNoValue (value_of (expr_tree c.args.e.now) (held c.args.env.now)) = search rules in
    ap (λ o. outcome_judged o (begins (expr_tree c.args.e.now))) (constant_is c.constants_are_values.ensures (expr_tree c.args.e.now) c.args.env.now)
    ∙ has_none (value_of (expr_tree c.args.e.now) (held c.args.env.now)) (begins (expr_tree c.args.e.now)) none
    ∙ ap (λ p. Broken not_constant p) (sym c.place_of-at.ensures)
