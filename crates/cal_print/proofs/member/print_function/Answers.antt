use Rattle.std.proofs.Common.{◌∷◌}
use Rattle.cal_ast.specs.View.{port_tree, var_tree}
use Rattle.cal_lexer.specs.Lexeme.{Lexeme}
use Rattle.cal_print.specs.Tokens.{joined, where_any}
use Rattle.cal_print.proofs.Texts.{then}
use Rattle.cal_print.proofs.Pieces.{said_of}
use Rattle.cal_print.proofs.member.print_function.Goals as goal

pub returns : goal.returns
returns c =
    (then c.put.ensures (then c.print_ident.ensures
    (then c.put-2.ensures (then (said_of port_tree (joined Lexeme.Comma) c.deref.ensures.value c.print_joined.ensures)
    (then c.put-3.ensures (then c.put-4.ensures
    (then (then c.print_type.ensures
    (said_of var_tree (λ vars. where_any vars (Lexeme.Var ∷ joined Lexeme.Comma vars)) c.deref-2.ensures.value c.print_introduced.ensures))
    (then c.put-5.ensures (then c.print_expr.ensures
    c.put-6.ensures)))))))))
