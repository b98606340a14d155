use Rattle.std.specs.Prelude.{◌≡◌, length}
use Rattle.kit_runs.specs.Fits.{are_few}
use Rattle.kit_runs.proofs.rates.are_few.Given as goal

abbrev pub invariant-numbers : goal.invariant-numbers
invariant-numbers l = are_few l.rest ≡ are_few l.initial.rest

abbrev pub decreases-numbers : goal.decreases-numbers
decreases-numbers l = length l.rest
