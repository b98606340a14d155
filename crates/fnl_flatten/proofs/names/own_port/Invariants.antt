use Rattle.std.proofs.Common.{◌≡◌, ◌+◌, ◌≤◌, map, length}
use Rattle.cal_model.specs.Sound.{max_ports}
use Rattle.fnl_tree.specs.View.{own_of}
use Rattle.fnl_flatten.specs.Joints.{own_names}
use Rattle.fnl_flatten.specs.Joints.{place_from, place_of}
use Rattle.fnl_flatten.proofs.names.own_port.Given as goal

abbrev pub invariant-ports : goal.invariant-ports
invariant-ports l = record {
  found : place_from l.place l.name (own_names (map own_of l.rest)) ≡ place_of l.name (own_names (map own_of l.initial.rest));
  few : l.place + length l.rest ≤ max_ports;
}

abbrev pub decreases-ports : goal.decreases-ports
decreases-ports l = length l.rest
