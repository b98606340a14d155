use Rattle.std.proofs.Common.{◌≡◌, ◌≤◌, ◌+◌, length}
use Rattle.cal_model.specs.Sound.{max_ports}
use Rattle.cal_check.specs.Ports.{number_from}
use Rattle.check_member.specs.Asking.{port_views}
use Rattle.check_member.proofs.asked.named_port.Given as goal

abbrev pub invariant-ports : goal.invariant-ports
invariant-ports l = record {
  found : number_from l.number l.name (port_views l.rest) ≡ number_from 0 l.name (port_views l.initial.rest);
  few : l.number + length l.rest ≤ max_ports;
}

abbrev pub decreases-ports : goal.decreases-ports
decreases-ports l = length l.rest
