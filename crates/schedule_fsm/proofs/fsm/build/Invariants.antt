use Rattle.std.proofs.Common.{take}
use Rattle.schedule_fsm.proofs.Built.{IsBuilt}
use Rattle.schedule_fsm.proofs.fsm.build.Given as goal

abbrev pub invariant-loop-step : goal.invariant-loop-step
invariant-loop-step l = IsBuilt (take l.step-index l.steps) l.free l.states l.targets.items
