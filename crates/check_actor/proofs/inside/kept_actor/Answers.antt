use Rattle.std.proofs.Common.{◌≡◌, [], map, Err, sym, subst, rules}
use Rattle.cal_model.specs.View.{var_view}
use Rattle.const_env.specs.Counting.{names_view}
use Rattle.check_given.specs.Causes.{IsCause}
use Rattle.check_actor.specs.Parts.{FindsInside}
use Rattle.check_actor.specs.Phases.{scalars_found}
use Rattle.check_actor.specs.Sources.{source_in}
use Rattle.check_actor.proofs.SiftedInside.{kept_finds, scalars_refused}
use Rattle.check_actor.proofs.inside.kept_actor.Goals as goal

pub returns-in_err-check_scalars : goal.returns-in_err-check_scalars
returns-in_err-check_scalars c = λ held header routines gs owner parts fine.
    let f = c.in_err-check_scalars.field-0.0 in
    let scope = c.args.scope.now in
    let same : c.from_residual.result ≡ Err f = search rules in
    let broken : IsCause f (scalars_found (source_in scope) (map var_view c.args.bare.vars.items)) =
    subst (λ xs. IsCause f (scalars_found (source_in scope) (map var_view xs))) c.deref.ensures.value c.in_err-check_scalars.ensures in
    subst (λ r. FindsInside r (source_in scope) gs owner) (sym same)
    (scalars_refused f c.args.bare held header routines scope (names_view c.args.names.now) gs owner parts broken)

pub returns : goal.returns
returns c = λ held header routines gs owner parts fine.
    let scope = c.args.scope.now in
    let scalars : scalars_found (source_in scope) (map var_view c.args.bare.vars.items) ≡ [] =
    subst (λ xs. scalars_found (source_in scope) (map var_view xs) ≡ []) c.deref.ensures.value c.in_ok-check_scalars.ensures in
    kept_finds c.built.result c.args.bare held header routines scope (names_view c.args.names.now) gs owner parts fine scalars c.built.ensures
