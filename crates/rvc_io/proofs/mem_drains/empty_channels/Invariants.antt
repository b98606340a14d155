use Rattle.std.proofs.Common.{◌≡◌, [], ◌∷◌, None, Some, replicate}
use Rattle.rvc_io.specs.MemDrains.{held_by_each, EachHasRoom}
use Rattle.rvc_io.proofs.mem_drains.empty_channels.Given as goal

-- the open channel, and so many closed ones as were made so far
abbrev pub invariant-loop-closed : goal.invariant-loop-closed
invariant-loop-closed l =
    record { held : held_by_each l.made.items ≡ Some [] ∷ replicate l._closed None; room : EachHasRoom l.room l.made.items }
