use Rattle.std.proofs.Common.{◌≡◌, [], map, Ok, Err, sym, subst, rules}
use Rattle.cal_model.specs.View.{proc_view, var_view}
use Rattle.const_env.specs.Counting.{names_view}
use Rattle.check_given.specs.Causes.{IsCause}
use Rattle.check_actor.specs.Parts.{SiftsAll}
use Rattle.check_actor.specs.Phases.{routines_found, scalars_found}
use Rattle.check_actor.specs.Sifting.{Sifts}
use Rattle.check_actor.specs.Sources.{source_in}
use Rattle.check_actor.proofs.SiftedInside.{own_said, routines_said, scalars_said}
use Rattle.check_actor.proofs.others.sift_inside.Goals as goal

pub returns-in_err-sift_routines : goal.returns-in_err-sift_routines
returns-in_err-sift_routines c = λ held header routines gs owner parts.
    let f = c.in_err-sift_routines.field-0.0 in
    let bare = c.args.bare.now in
    let scope = c.args.scope.now in
    let names = names_view c.args.names.now in
    let same : c.from_residual.result ≡ Err f = search rules in
    let found : Sifts (Err f) (routines_found (source_in scope) (map proc_view bare.procs) names) = c.in_err-sift_routines.ensures in
    subst (λ r. SiftsAll r (source_in scope) gs owner) (sym same) (routines_said bare held header routines scope names gs owner parts f found)

pub returns-in_err-check_scalars : goal.returns-in_err-check_scalars
returns-in_err-check_scalars c = λ held header routines gs owner parts.
    let f = c.in_err-check_scalars.field-0.0 in
    let bare = c.args.bare.now in
    let scope = c.args.scope.now in
    let names = names_view c.args.names.now in
    let same : c.from_residual-in_err-check_scalars.result ≡ Err f = search rules in
    let broken : IsCause f (scalars_found (source_in scope) (map var_view bare.vars.items)) =
    subst (λ xs. IsCause f (scalars_found (source_in scope) (map var_view xs))) c.deref.ensures.value c.in_err-check_scalars.ensures in
    subst (λ r. SiftsAll r (source_in scope) gs owner) (sym same) (scalars_said bare held header routines scope names gs owner parts f broken)

pub returns : goal.returns
returns c = λ held header routines gs owner parts.
    let bare = c.args.bare.now in
    let scope = c.args.scope.now in
    let names = names_view c.args.names.now in
    let found : Sifts (Ok tt) (routines_found (source_in scope) (map proc_view bare.procs) names) = c.in_ok-sift_routines.ensures in
    let scalars : scalars_found (source_in scope) (map var_view bare.vars.items) ≡ [] =
    subst (λ xs. scalars_found (source_in scope) (map var_view xs) ≡ []) c.deref.ensures.value c.in_ok-check_scalars.ensures in
    own_said bare held header routines scope names gs owner parts c.sift_members.result found scalars c.sift_members.ensures
