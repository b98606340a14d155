use Rattle.std.proofs.Common.{map, take}
use Rattle.cal_ast.specs.Tree.{listed}
use Rattle.cal_print.specs.Tokens.{following}
use Rattle.cal_print.specs.Writes.{Writes}
use Rattle.cal_lexer.specs.Words.{lexeme_of}
use Rattle.cal_print.proofs.part.print_joined.Given as goal

abbrev pub invariant-loop-part : goal.invariant-loop-part
invariant-loop-part g l = Writes l.initial.out (following (lexeme_of l.mark) (listed (map g.T.Part.tree (take l.part-index l.others)))) l.out
