use Rattle.std.specs.Prelude.{◌≡◌, length}
use Rattle.kit_runs.specs.Rooms.{room_at}
use Rattle.kit_runs.proofs.rooms.room_at.Given as goal

abbrev pub invariant-links : goal.invariant-links
invariant-links l = room_at l.inward l.grow l.leaf l.port l.room l.rest ≡ room_at l.inward l.grow l.leaf l.port l.initial.room l.initial.rest

abbrev pub decreases-links : goal.decreases-links
decreases-links l = length l.rest
