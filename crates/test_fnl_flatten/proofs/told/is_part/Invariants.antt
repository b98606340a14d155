use Rattle.std.proofs.Common.{◌≡◌, map, length}
use Rattle.fnl_tree.specs.View.{part_of}
use Rattle.test_fnl_flatten.specs.Tested.{is_among, part_ids}
use Rattle.test_fnl_flatten.proofs.told.is_part.Given as goal

abbrev pub invariant-parts : goal.invariant-parts
invariant-parts l = is_among l.id (part_ids (map part_of l.rest)) ≡ is_among l.id (part_ids (map part_of l.initial.rest))

abbrev pub decreases-parts : goal.decreases-parts
decreases-parts l = length l.rest
