use Rattle.std.proofs.Common.{◌≡◌, ◌++◌, map, length}
use Rattle.cal_model.specs.View.{port_view}
use Rattle.fnl_tree.specs.View.{wire_of}
use Rattle.fnl_source.specs.Lone.{wire_out}
use Rattle.network_check.proofs.lone.push_wires_out.Given as goal

abbrev pub invariant-ports : goal.invariant-ports
invariant-ports l = map wire_of l.wires.items ++ map (wire_out l.name) (map port_view l.rest) ≡ map wire_of l.initial.wires.items ++ map (wire_out l.initial.name) (map port_view l.initial.rest)

abbrev pub decreases-ports : goal.decreases-ports
decreases-ports l = length l.rest
