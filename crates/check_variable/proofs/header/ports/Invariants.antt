use Rattle.std.proofs.Common.{◌≡◌, map, length}
use Rattle.cal_model.specs.View.{port_view}
use Rattle.const_env.specs.Counting.{names_view}
use Rattle.cal_check.specs.Ports.{each_port}
use Rattle.cal_check.specs.Violations.{all_broken, all_fine}
use Rattle.check_variable.specs.Views.{ports_tree}
use Rattle.check_variable.specs.Faults.{behind}
use Rattle.check_variable.proofs.header.ports.Given as goal

abbrev pub invariant-ports : goal.invariant-ports
invariant-ports l = record {
  broken : all_broken (each_port (ports_tree l.rest) (names_view l.names)) ≡ all_broken (each_port (ports_tree l.initial.rest) (names_view l.names));
  found : behind (map port_view l.ports.items) (all_fine (each_port (ports_tree l.rest) (names_view l.names)))
      ≡ all_fine (each_port (ports_tree l.initial.rest) (names_view l.names));
}

abbrev pub decreases-ports : goal.decreases-ports
decreases-ports l = length l.rest
