use Rattle.std.proofs.Common.{◌≡◌, ◌++◌, map, length}
use Rattle.net_model.specs.Ready as ready
use Rattle.fnl_tree.specs.View.{own_of}
use Rattle.fnl_flatten.specs.Flat.{port_of}
use Rattle.fnl_flatten.proofs.flat.ports.Given as goal

abbrev pub invariant-ends : goal.invariant-ends
invariant-ends l = map ready.port_of l.ports.items ++ map port_of (map own_of l.rest) ≡ map port_of (map own_of l.initial.rest)

abbrev pub decreases-ends : goal.decreases-ends
decreases-ends l = length l.rest
