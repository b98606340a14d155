use Rattle.std.proofs.Common.{◌≡◌, false, rules}
use Rattle.cal_check.specs.Actors.{actor_given, around_of, inside_found}
use Rattle.check_actor.specs.Parts.{IsCycleOf}
use Rattle.check_actor.specs.Sifting.{lacks}
use Rattle.check_actor.specs.Sources.{source_in}
use Rattle.check_actor.proofs.SiftedInside.{fault_kept, fault_only, other_told}
use Rattle.check_actor.proofs.inside.inside_fault.Goals as goal

pub returns-then-not-lacks : goal.returns-then-not-lacks
returns-then-not-lacks c = λ held header routines gs owner parts cause.
    let s = source_in c.args.scope.now in
    let says : lacks c.args.fault ≡ false = search rules in
    fault_kept c.args.fault (inside_found s (around_of s gs owner) (actor_given s gs owner)) (λ g. IsCycleOf g s gs owner) says cause

pub returns-in-Ok : goal.returns-in-Ok
returns-in-Ok c = λ held header routines gs owner parts cause.
    let s = source_in c.args.scope.now in
    fault_only c.args.fault (inside_found s (around_of s gs owner) (actor_given s gs owner)) (λ g. IsCycleOf g s gs owner)
    (c.in-Ok.ensures held header routines gs owner parts) cause

pub returns-in-Err : goal.returns-in-Err
returns-in-Err c = λ held header routines gs owner parts cause.
    other_told c.in-Err.other (source_in c.args.scope.now) gs owner (c.in-Err.ensures held header routines gs owner parts)
