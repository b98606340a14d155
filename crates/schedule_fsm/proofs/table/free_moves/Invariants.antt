use Rattle.std.proofs.Common.{◌≡◌, ◌*◌, length}
use Rattle.schedule_fsm.proofs.Rows.{Stays}
use Rattle.schedule_fsm.proofs.table.free_moves.Given as goal

abbrev pub invariant-loop-state : goal.invariant-loop-state
invariant-loop-state l = record {
  size : length l.table.items ≡ l.state * length l.free;
  stays : Stays l.free l.state l.table.items;
}
