use Rattle.std.proofs.Common.{map, take}
use Rattle.cal_ast.specs.Tree.{listed}
use Rattle.cal_ast.specs.View.{expr_tree}
use Rattle.cal_print.specs.Tokens.{each_place}
use Rattle.cal_print.specs.Writes.{Writes}
use Rattle.cal_print.proofs.stmt.print_places.Given as goal

abbrev pub invariant-loop-place : goal.invariant-loop-place
invariant-loop-place l = Writes l.initial.out (each_place (listed (map expr_tree (take l.place-index l.places)))) l.out
