use Rattle.std.proofs.Common.{◌≡◌, map, take}
use Rattle.determinacy_cert.specs.Judging.{step_of}
use Rattle.determinacy_cert.proofs.table.steps.Given as goal

abbrev pub invariant-loop-step : goal.invariant-loop-step
invariant-loop-step l = l.steps.items ≡ map step_of (take l.step-index l.moves)
