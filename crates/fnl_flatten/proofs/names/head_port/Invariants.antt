use Rattle.std.proofs.Common.{◌≡◌, ◌+◌, ◌≤◌, map, length}
use Rattle.cal_model.specs.Sound.{max_ports}
use Rattle.fnl_flatten.specs.View.{head_port_of}
use Rattle.fnl_flatten.specs.Head.{head_names}
use Rattle.fnl_flatten.specs.Joints.{place_from, place_of}
use Rattle.fnl_flatten.proofs.names.head_port.Given as goal

abbrev pub invariant-ports : goal.invariant-ports
invariant-ports l = record {
  found : place_from l.place l.name (head_names (map head_port_of l.rest)) ≡ place_of l.name (head_names (map head_port_of l.initial.rest));
  few : l.place + length l.rest ≤ max_ports;
}

abbrev pub decreases-ports : goal.decreases-ports
decreases-ports l = length l.rest
