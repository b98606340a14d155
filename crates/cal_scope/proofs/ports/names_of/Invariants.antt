use Rattle.std.proofs.Common.{◌≡◌, length, map, []}
use Rattle.cal_ast.specs.Tree.{listed}
use Rattle.cal_ast.specs.View.{port_tree}
use Rattle.cal_scope.specs.Expressions.{declared_by}
use Rattle.cal_scope.proofs.ports.names_of.Given as goal

abbrev pub invariant-ports : goal.invariant-ports
invariant-ports l = declared_by (listed (map port_tree l.rest)) l.names ≡ declared_by (listed (map port_tree l.initial.rest)) []

abbrev pub decreases-ports : goal.decreases-ports
decreases-ports l = length l.rest
