use Rattle.std.proofs.Common.{map, take}
use Rattle.cal_ast.specs.Tree.{listed}
use Rattle.cal_print.specs.Tokens.{words}
use Rattle.cal_print.specs.Writes.{Writes}
use Rattle.cal_print.proofs.part.print_each.Given as goal

abbrev pub invariant-loop-part : goal.invariant-loop-part
invariant-loop-part g l = Writes l.initial.out (words (listed (map g.T.Part.tree (take l.part-index l.parts)))) l.out
