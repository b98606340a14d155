use Rattle.std.specs.Prelude.{◌≡◌, length}
use Rattle.kit_runs.specs.Links.{are_in_order}
use Rattle.kit_runs.proofs.order.are_in_order.Given as goal

abbrev pub invariant-links : goal.invariant-links
invariant-links l = are_in_order l.rest ≡ are_in_order l.initial.rest

abbrev pub decreases-links : goal.decreases-links
decreases-links l = length l.rest
