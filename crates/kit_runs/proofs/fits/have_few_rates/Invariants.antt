use Rattle.std.specs.Prelude.{map}
use Rattle.std.specs.Arc.{arc_value}
use Rattle.kit_runs.specs.Fits.{HasFewRates, OfFirst}
use Rattle.kit_runs.proofs.fits.have_few_rates.Given as goal

abbrev pub invariant-loop-i : goal.invariant-loop-i
invariant-loop-i l = OfFirst l.i (map arc_value l.actors) HasFewRates
