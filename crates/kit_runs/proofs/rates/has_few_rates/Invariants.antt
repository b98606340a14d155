use Rattle.kit_runs.specs.Fits.{HasFewOf, OfFirst}
use Rattle.kit_runs.proofs.rates.has_few_rates.Given as goal

abbrev pub invariant-loop-a : goal.invariant-loop-a
invariant-loop-a l = OfFirst l.a l.actor.actions HasFewOf
