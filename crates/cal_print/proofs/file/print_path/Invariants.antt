use Rattle.std.proofs.Common.{map, take}
use Rattle.cal_ast.specs.Tree.{listed}
use Rattle.cal_ast.specs.View.{ident_tree}
use Rattle.cal_print.specs.Tokens.{dotted}
use Rattle.cal_print.specs.Writes.{Writes}
use Rattle.cal_print.proofs.file.print_path.Given as goal

abbrev pub invariant-loop-name : goal.invariant-loop-name
invariant-loop-name l = Writes l.initial.out (dotted (listed (map ident_tree (take l.name-index l.path)))) l.out
