use Rattle.std.proofs.Common.{◌≡◌, map, length}
use Rattle.fnl_flatten.specs.View.{head_of}
use Rattle.test_fnl_flatten.specs.Tested.{are_heads_fine}
use Rattle.test_fnl_flatten.proofs.heads.are_heads_fine.Given as goal

abbrev pub invariant-heads : goal.invariant-heads
invariant-heads l = are_heads_fine (map head_of l.rest) ≡ are_heads_fine (map head_of l.initial.rest)

abbrev pub decreases-heads : goal.decreases-heads
decreases-heads l = length l.rest
