use Rattle.cal_ast.specs.View.{member_tree, param_tree, port_tree}
use Rattle.cal_lexer.specs.Lexeme.{Lexeme}
use Rattle.cal_print.specs.Tokens.{joined, each_member}
use Rattle.cal_print.proofs.Texts.{then}
use Rattle.cal_print.proofs.Pieces.{said_of}
use Rattle.cal_print.proofs.file.print_actor.Goals as goal

pub returns : goal.returns
returns c =
    (then c.put.ensures (then c.print_ident.ensures
    (then c.put-2.ensures (then (said_of param_tree (joined Lexeme.Comma) c.deref.ensures.value c.print_joined.ensures)
    (then c.put-3.ensures (then (said_of port_tree (joined Lexeme.Comma) c.deref-2.ensures.value c.print_joined-2.ensures)
    (then c.put-4.ensures (then (said_of port_tree (joined Lexeme.Comma) c.deref-3.ensures.value c.print_joined-3.ensures)
    (then c.put-5.ensures (then (said_of member_tree each_member c.deref-4.ensures.value c.print_members.ensures)
    c.put-6.ensures))))))))))
