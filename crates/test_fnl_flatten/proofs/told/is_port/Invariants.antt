use Rattle.std.proofs.Common.{◌≡◌, map, length}
use Rattle.fnl_flatten.specs.Head.{head_names}
use Rattle.fnl_flatten.specs.View.{head_port_of}
use Rattle.test_fnl_flatten.specs.Tested.{is_among}
use Rattle.test_fnl_flatten.proofs.told.is_port.Given as goal

abbrev pub invariant-ports : goal.invariant-ports
invariant-ports l = is_among l.name (head_names (map head_port_of l.rest)) ≡ is_among l.name (head_names (map head_port_of l.initial.rest))

abbrev pub decreases-ports : goal.decreases-ports
decreases-ports l = length l.rest
