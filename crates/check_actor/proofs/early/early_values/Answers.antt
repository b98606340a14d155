use Rattle.std.proofs.Common.{◌≡◌, Err, ap, sym, subst, ◌∙◌, rules}
use Rattle.cal_check.specs.Actors.{all_funs, members_of, vars_in}
use Rattle.check_functions.specs.Known.{fun_decls}
use Rattle.check_variable.specs.Views.{var_decls}
use Rattle.check_given.specs.Given.{all_given, spot_of}
use Rattle.check_actor.specs.Early.{FindsEarly, vars_before}
use Rattle.check_actor.specs.Sources.{source_in}
use Rattle.check_actor.proofs.Telling.{before_keeps}
use Rattle.check_actor.proofs.early.early_values.Goals as goal

pub returns-in_err-before : goal.returns-in_err-before
returns-in_err-before c =
    let f = c.in_err-before.field-0.0 in
    let s = source_in c.args.scope.now in
    let gs = all_given c.args.told.given.now in
    let owner = spot_of c.args.told.owner in
    let same : c.from_residual.result ≡ Err f = search rules in
    let vars : var_decls c.deref.result.now ≡ vars_before s = ap var_decls c.deref.ensures.value ∙ c.in-Ok.ensures in
    let broken = c.in_err-before.ensures in
    subst (λ r. FindsEarly r s gs owner) (sym same) (
      before_keeps f (var_decls c.deref.result.now) (vars_before s) (vars_in s.file (members_of s.actor)) gs owner
          (fun_decls c.args.told.funs.now) (all_funs s) vars c.requires.funs broken.0,
      broken.1,
    )
