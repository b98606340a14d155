use Rattle.std.specs.Prelude.{◌≡◌, length}
use Rattle.kit_runs.specs.Links.{are_behind}
use Rattle.kit_runs.proofs.order.are_behind.Given as goal

abbrev pub invariant-links : goal.invariant-links
invariant-links l = are_behind l.end l.rest ≡ are_behind l.end l.initial.rest

abbrev pub decreases-links : goal.decreases-links
decreases-links l = length l.rest
