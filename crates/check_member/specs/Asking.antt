-- Parts that ask for a port: patterns and outputs.
-- Trusted but for `asked_view` and `asked_views`: part of what a promise means.
use Rattle.std.specs.Prelude.{List, map, option_map}
use Rattle.cal_ast.specs.Tree.{Tree, listed}
use Rattle.cal_ast.specs.View.{output_tree, pattern_tree}
use Rattle.cal_ast.specs.declared.action.Output.{Output}
use Rattle.cal_ast.specs.declared.action.Pattern.{Pattern}
use Rattle.cal_model.specs.Actor.{Port}
use Rattle.cal_model.specs.View.{port_view}
use Rattle.cal_model.specs.declared.bound.Port.{Port as DeclaredPort}
use Rattle.cal_check.specs.Violations.{Violation, if_fine}
use Rattle.check_member.specs.declared.asked.AskedPort.{AskedPort}
use Rattle.cal_check.specs.Ports.{Asked, numbers_twice, ports_asked}

abbrev pub patterns_tree : List Pattern → Tree
patterns_tree patterns = listed (map pattern_tree patterns)

abbrev pub outputs_tree : List Output → Tree
outputs_tree outputs = listed (map output_tree outputs)

abbrev pub port_views : List DeclaredPort → List Port
port_views ports = map port_view ports

-- what is wrong with the ports that are asked for: the first that isn't there, or else each that is asked for twice
abbrev pub asked_broken : List Asked → List Port → List Violation
asked_broken asked ports =
    if_fine (ports_asked asked ports) (λ numbers. numbers_twice numbers asked)

-- what a part asks for, as it is kept
abbrev pub asked_view : AskedPort → Asked
asked_view a = record { name = option_map (λ name. name.now) a.name; at = a.at }

abbrev pub asked_views : List AskedPort → List Asked
asked_views asked = map asked_view asked
