use Rattle.std.proofs.Common.{map}
use Rattle.cal_ast.specs.View.{port_tree}
use Rattle.cal_scope.specs.Asked.{outermost}
use Rattle.cal_scope.proofs.Loops.{IsJudgedUpTo}
use Rattle.cal_imports.proofs.HeaderParts.{port_part, stay}
use Rattle.cal_imports.proofs.header.ports.Given as goal

abbrev pub invariant-loop-p : goal.invariant-loop-p
invariant-loop-p l = IsJudgedUpTo port_part stay (map port_tree l.found.items) l.p-index l.list (outermost l.names) (outermost l.names)
