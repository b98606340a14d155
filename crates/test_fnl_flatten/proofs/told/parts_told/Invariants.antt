use Rattle.std.proofs.Common.{◌≡◌, map, length}
use Rattle.fnl_tree.specs.View.{part_of}
use Rattle.test_fnl_flatten.specs.Tested.{are_told, part_ids}
use Rattle.test_fnl_flatten.proofs.told.parts_told.Given as goal

abbrev pub invariant-parts : goal.invariant-parts
invariant-parts l = are_told (part_ids (map part_of l.rest)) ≡ are_told (part_ids (map part_of l.initial.rest))

abbrev pub decreases-parts : goal.decreases-parts
decreases-parts l = length l.rest
