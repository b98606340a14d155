use Rattle.std.proofs.Common.{map}
use Rattle.cal_ast.specs.View.{output_tree}
use Rattle.cal_scope.specs.PortView.{ports_view}
use Rattle.cal_scope.specs.View.{names_view}
use Rattle.cal_scope.proofs.Each.{stay}
use Rattle.cal_scope.proofs.EachOf.{output_part}
use Rattle.cal_scope.proofs.Loops.{IsJudgedUpTo}
use Rattle.cal_scope.proofs.actions.outputs.Given as goal

abbrev pub invariant-loop-o : goal.invariant-loop-o
invariant-loop-o l = IsJudgedUpTo (output_part (ports_view l.ports)) stay (map output_tree l.found.items) l.o-index l.outputs (names_view l.names) (names_view l.names)
