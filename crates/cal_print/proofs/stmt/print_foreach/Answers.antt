use Rattle.std.proofs.Common.{[], ◌∷◌, ◌++◌}
use Rattle.cal_ast.specs.View.{expr_tree}
use Rattle.cal_lexer.specs.Lexeme.{Lexeme}
use Rattle.cal_print.specs.Tokens.{words}
use Rattle.cal_print.proofs.Texts.{then}
use Rattle.cal_print.proofs.Between.{between_then}
use Rattle.cal_print.proofs.stmt.print_foreach.Goals as goal

pub returns : goal.returns
returns c =
    (then c.put.ensures
    (then (then c.print_type.ensures c.print_ident.ensures)
    (between_then Lexeme.In (words (expr_tree c.args.from.now)) Lexeme.DotDot (words (expr_tree c.args.to.now) ++ (Lexeme.Do ∷ [])) c.print_between.ensures
    (then c.print_expr.ensures c.put-2.ensures))))
