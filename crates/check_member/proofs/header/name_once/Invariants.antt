use Rattle.std.proofs.Common.{◌≡◌, ◌++◌, ℕ, List, length}
use Rattle.std.specs.Str.{bytes_eq}
use Rattle.rvc_base.specs.Rules.{port_named_twice}
use Rattle.cal_check.specs.Ports.{keyed_ports}
use Rattle.cal_check.specs.Violations.{Keyed, twice}
use Rattle.check_member.specs.Parts.{ports_tree}
use Rattle.check_member.proofs.header.name_once.Given as goal

abbrev pub invariant-ports : goal.invariant-ports
invariant-ports l = (more : List (Keyed (List ℕ)))
    → twice bytes_eq port_named_twice l.initial.names (keyed_ports (ports_tree l.initial.rest) ++ more)
    ≡ twice bytes_eq port_named_twice l.names (keyed_ports (ports_tree l.rest) ++ more)

abbrev pub decreases-ports : goal.decreases-ports
decreases-ports l = length l.rest
