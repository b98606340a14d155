use Rattle.std.proofs.Common.{◌≡◌, ◌++◌, map, take}
use Rattle.schedule_fsm.specs.Free.{stay}
use Rattle.schedule_fsm.proofs.table.push_row.Given as goal

abbrev pub invariant-loop-is_free : goal.invariant-loop-is_free
invariant-loop-is_free l =
    l.table.items ≡ l.initial.table.items ++ map (stay l.state) (take l.is_free-index l.free)
