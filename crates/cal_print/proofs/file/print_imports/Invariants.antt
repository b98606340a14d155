use Rattle.std.proofs.Common.{map, take}
use Rattle.cal_ast.specs.Tree.{listed}
use Rattle.cal_ast.specs.View.{import_tree}
use Rattle.cal_print.specs.Tokens.{words}
use Rattle.cal_print.specs.Writes.{Writes}
use Rattle.cal_print.proofs.file.print_imports.Given as goal

abbrev pub invariant-loop-import : goal.invariant-loop-import
invariant-loop-import l = Writes l.initial.out (words (listed (map import_tree (take l.import-index l.imports)))) l.out
