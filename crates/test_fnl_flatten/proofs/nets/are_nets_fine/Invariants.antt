use Rattle.std.proofs.Common.{◌≡◌, map, length}
use Rattle.fnl_tree.specs.View.{net_of}
use Rattle.test_fnl_flatten.specs.Tested.{are_nets_fine}
use Rattle.test_fnl_flatten.proofs.nets.are_nets_fine.Given as goal

abbrev pub invariant-nets : goal.invariant-nets
invariant-nets l = are_nets_fine (map net_of l.rest) ≡ are_nets_fine (map net_of l.initial.rest)

abbrev pub decreases-nets : goal.decreases-nets
decreases-nets l = length l.rest
