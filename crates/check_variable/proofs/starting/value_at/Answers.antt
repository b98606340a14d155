use Rattle.std.proofs.Common.{◌≡◌, Ok, None, refl, sym, ap, subst, ◌∙◌, rules}
use Rattle.rvc_base.specs.Rules.{constant_traps, not_constant}
use Rattle.cal_ast.specs.Places.{begins}
use Rattle.cal_ast.specs.View.{expr_tree}
use Rattle.cal_check.specs.Violations.{violation}
use Rattle.cal_model.specs.Outcome.{Clashes, Gives, Lacks, Traps}
use Rattle.cal_model.specs.View.{shape_view, value_view}
use Rattle.const_expr.specs.Evaluable.{value_of}
use Rattle.const_env.specs.Held.{held}
use Rattle.check_variable.specs.Valuing.{ComesTo, came}
use Rattle.check_variable.proofs.Starts.{start_is}
use Rattle.check_variable.proofs.starting.value_at.Goals as goal

pub returns-in_ok-kept-in-Ok : goal.returns-in_ok-kept-in-Ok
returns-in_ok-kept-in-Ok c =
    let o = c.in-Ok.ensures.value in
    subst (λ d. ComesTo (Ok c.in_ok-kept-in-Ok.field-0) d (begins (expr_tree c.args.e.now)))
    (sym (start_is c.constants_are_values.ensures c.args.env.now (shape_view c.args.t.now) (expr_tree c.args.e.now) (Gives (value_view c.in-Ok.value) o.0) o.1))
    (c.in_ok-kept-in-Ok.ensures o.0 (begins (expr_tree c.args.e.now)))

pub returns-in-Err-Trap : goal.returns-in-Err-Trap
returns-in-Err-Trap c =
    let traps : value_of (expr_tree c.args.e.now) (held c.args.env.now) ≡ Traps c.in-Err-Trap.field-0-0 = search rules in (
      start_is c.constants_are_values.ensures c.args.env.now (shape_view c.args.t.now) (expr_tree c.args.e.now) (Traps c.in-Err-Trap.field-0-0) traps
          ∙ ap (λ p. came None (violation constant_traps p)) (sym c.place_of-at.ensures),
      refl,
    )

pub returns-in-Err-Lacks : goal.returns-in-Err-Lacks
returns-in-Err-Lacks c =
    let lacks : value_of (expr_tree c.args.e.now) (held c.args.env.now) ≡ Lacks = search rules in
    start_is c.constants_are_values.ensures c.args.env.now (shape_view c.args.t.now) (expr_tree c.args.e.now) Lacks lacks
    ∙ ap (λ p. came None (violation not_constant p)) (sym c.place_of-at.ensures)

pub returns-in-Err-Clashes : goal.returns-in-Err-Clashes
returns-in-Err-Clashes c =
    let clashes : value_of (expr_tree c.args.e.now) (held c.args.env.now) ≡ Clashes = search rules in
    start_is c.constants_are_values.ensures c.args.env.now (shape_view c.args.t.now) (expr_tree c.args.e.now) Clashes clashes
