use Rattle.std.proofs.Common.{◌≡◌, Err, true, sym, subst, rules}
use Rattle.std.specs.Prelude.{Some}
use Rattle.cal_check.specs.Variables.{given_to}
use Rattle.cal_model.specs.View.{shape_view}
use Rattle.check_variable.specs.Views.{var_decl}
use Rattle.check_given.specs.Given.{all_given, given_of, spot_of}
use Rattle.check_variable.specs.Valuing.{Settles}
use Rattle.check_variable.proofs.Settling.{given_refused}
use Rattle.check_variable.proofs.given.settle.Goals as goal

pub returns-in_err-value : goal.returns-in_err-value
returns-in_err-value c = λ come h.
    let same : c.from_residual.result ≡ Err c.in_err-value.field-0.0 = search rules in
    let param : c.args.x.is_param ≡ true = search rules in
    let given : given_to c.args.x.name.now (all_given c.args.told.given.now) ≡ Some (given_of c.in-Some.g.now) = search rules in
    subst (λ r. Settles r (var_decl c.args.x) (all_given c.args.told.given.now) (spot_of c.args.told.owner) (shape_view c.args.t.now) come) (sym same) (
      given_refused c.in_err-value.field-0.0 (var_decl c.args.x) (all_given c.args.told.given.now) (spot_of c.args.told.owner) (shape_view c.args.t.now) come (given_of c.in-Some.g.now)
          param given c.in_err-value.ensures.stored.0,
      c.in_err-value.ensures.stored.1,
    )
