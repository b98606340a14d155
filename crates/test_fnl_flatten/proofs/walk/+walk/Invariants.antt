use Rattle.std.proofs.Common.{◌+◌, map, length}
use Rattle.fnl_tree.specs.View.{net_of}
use Rattle.test_fnl_flatten.proofs.Weights.{weights}
use Rattle.test_fnl_flatten.proofs.walk.+walk.Given as goal

-- the parts to go, and those of the networks to come
abbrev pub decreases-walk : goal.decreases-walk
decreases-walk l = length l.parts.now + weights (map net_of l.nets.now)
