use Rattle.kit_runs.specs.Rooms.{AreRoomsOf}
use Rattle.kit_runs.proofs.rooms.rooms_of.Given as goal

abbrev pub invariant-loop-port : goal.invariant-loop-port
invariant-loop-port l = AreRoomsOf l.inward l.grow l.leaf l.least l.links l.port l.rooms.items
