use Rattle.std.proofs.Common.{◌≡◌, map, length}
use Rattle.fnl_tree.specs.View.{wire_of}
use Rattle.test_fnl_flatten.specs.Tested.{are_bounded}
use Rattle.test_fnl_flatten.proofs.nets.are_bounded.Given as goal

abbrev pub invariant-wires : goal.invariant-wires
invariant-wires l = are_bounded (map wire_of l.rest) ≡ are_bounded (map wire_of l.initial.rest)

abbrev pub decreases-wires : goal.decreases-wires
decreases-wires l = length l.rest
