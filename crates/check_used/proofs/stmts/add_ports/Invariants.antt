use Rattle.std.proofs.Common.{◌≡◌, length}
use Rattle.check_used.specs.Naming.{ports_tree, with_names}
use Rattle.check_used.proofs.stmts.add_ports.Given as goal

abbrev pub invariant-ports : goal.invariant-ports
invariant-ports l = with_names (ports_tree l.rest) l.names ≡ with_names (ports_tree l.initial.rest) l.initial.names

abbrev pub decreases-ports : goal.decreases-ports
decreases-ports l = length l.rest
