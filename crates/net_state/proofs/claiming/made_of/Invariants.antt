use Rattle.std.proofs.Common.{◌≡◌, ◌*◌, ◌≤◌, take}
use Rattle.net_state.specs.Claiming.{back, made_all}
use Rattle.net_state.proofs.claiming.made_of.Given as goal

abbrev pub invariant-loop-task : goal.invariant-loop-task
invariant-loop-task g l = (l.made ≡ made_all g.A.Firing.cell (back (take l.task-index l.tasks))) × (l.made.fired ≤ 65536 * l.task-index)
