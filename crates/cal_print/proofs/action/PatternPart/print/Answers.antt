use Rattle.cal_ast.specs.View.{ident_tree}
use Rattle.cal_lexer.specs.Lexeme.{Lexeme}
use Rattle.cal_print.specs.Tokens.{joined}
use Rattle.cal_print.proofs.Texts.{then}
use Rattle.cal_print.proofs.Pieces.{said_of}
use Rattle.cal_print.proofs.action.PatternPart.print.Goals as goal

pub returns : goal.returns
returns c =
    (then c.print_label.ensures (then c.put.ensures
    (then (said_of ident_tree (joined Lexeme.Comma) c.deref.ensures.value c.print_joined.ensures) (then c.put-2.ensures
    c.print_under.ensures))))
