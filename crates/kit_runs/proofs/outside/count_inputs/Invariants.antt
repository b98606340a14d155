use Rattle.std.specs.Prelude.{◌≡◌, ◌+◌, ◌≤◌, length}
use Rattle.round_runner.specs.Running.{count_inputs}
use Rattle.kit_runs.proofs.outside.count_inputs.Given as goal

abbrev pub invariant-links : goal.invariant-links
invariant-links l = (l.count + count_inputs l.rest ≡ count_inputs l.initial.rest) × (l.count ≤ 1024)

abbrev pub decreases-links : goal.decreases-links
decreases-links l = length l.rest
