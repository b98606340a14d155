use Rattle.std.proofs.Common.{◌∷◌, map, sym}
use Rattle.cal_ast.specs.Tree.{listed}
use Rattle.cal_lexer.specs.Lexeme.{Lexeme}
use Rattle.cal_print.specs.Tokens.{joined}
use Rattle.cal_lexer.specs.Words.{lexeme_of}
use Rattle.cal_print.proofs.Texts.{then, reword}
use Rattle.cal_print.proofs.Present.{where_not_empty}
use Rattle.cal_print.proofs.part.print_introduced.Goals as goal

pub returns : goal.returns
returns g c =
    reword (then c.put.ensures c.print_joined.ensures)
    (sym (where_not_empty g.T.Part.tree c.args.parts.now (lexeme_of c.args.word ∷ joined Lexeme.Comma (listed (map g.T.Part.tree c.args.parts.now))) c.if-is_empty.ensures))
