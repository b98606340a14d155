use Rattle.std.proofs.Common.{◌++◌, map, length}
use Rattle.fnl_tree.specs.View.{part_of}
use Rattle.fnl_flatten.specs.Named.{NameAlike}
use Rattle.fnl_flatten.proofs.part_names.PartNames.new.Given as goal

abbrev pub invariant-parts : goal.invariant-parts
invariant-parts l = NameAlike (l.names ++ map part_of l.rest) (map part_of l.initial.rest)

abbrev pub decreases-parts : goal.decreases-parts
decreases-parts l = length l.rest
