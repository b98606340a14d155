use Rattle.std.proofs.Common.{◌≡◌, ◌+◌, length, map}
use Rattle.cal_check.specs.Actors.{scalars_of}
use Rattle.cal_model.specs.View.{var_view}
use Rattle.check_actor.specs.Phases.{capped}
use Rattle.check_actor.proofs.scalars.scalars_of.Given as goal

abbrev pub invariant-vars : goal.invariant-vars
invariant-vars l = record {
  few : capped l.found ≡ l.found;
  all : capped (l.found + scalars_of (map var_view l.rest)) ≡ capped (scalars_of (map var_view l.initial.rest));
}

abbrev pub decreases-vars : goal.decreases-vars
decreases-vars l = length l.rest
