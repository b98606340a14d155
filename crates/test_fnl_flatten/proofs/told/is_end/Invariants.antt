use Rattle.std.proofs.Common.{◌≡◌, map, length}
use Rattle.fnl_flatten.specs.Joints.{own_names}
use Rattle.fnl_tree.specs.View.{own_of}
use Rattle.test_fnl_flatten.specs.Tested.{is_among}
use Rattle.test_fnl_flatten.proofs.told.is_end.Given as goal

abbrev pub invariant-ends : goal.invariant-ends
invariant-ends l = is_among l.name (own_names (map own_of l.rest)) ≡ is_among l.name (own_names (map own_of l.initial.rest))

abbrev pub decreases-ends : goal.decreases-ends
decreases-ends l = length l.rest
