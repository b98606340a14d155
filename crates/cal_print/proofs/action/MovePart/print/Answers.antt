use Rattle.cal_ast.specs.View.{tag_tree}
use Rattle.cal_lexer.specs.Lexeme.{Lexeme}
use Rattle.cal_print.specs.Tokens.{joined}
use Rattle.cal_print.proofs.Texts.{then}
use Rattle.cal_print.proofs.Pieces.{said_of}
use Rattle.cal_print.proofs.action.MovePart.print.Goals as goal

pub returns : goal.returns
returns c =
    (then c.print_ident.ensures (then c.put.ensures
    (then (said_of tag_tree (joined Lexeme.Comma) c.deref.ensures.value c.print_joined.ensures) (then c.put-2.ensures
    (then c.put-3.ensures (then c.print_ident-2.ensures
    c.put-4.ensures))))))
