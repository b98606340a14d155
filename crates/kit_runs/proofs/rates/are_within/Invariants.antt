use Rattle.kit_runs.specs.Fits.{IsWithin, OfFirst}
use Rattle.kit_runs.proofs.rates.are_within.Given as goal

abbrev pub invariant-loop-a : goal.invariant-loop-a
invariant-loop-a l = OfFirst l.a l.actor.actions (IsWithin l.gives l.port l.capacity)
