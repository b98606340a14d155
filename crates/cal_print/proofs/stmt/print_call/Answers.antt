use Rattle.std.proofs.Common.{[], ◌∷◌, ◌++◌, map, ap}
use Rattle.cal_ast.specs.Tree.{listed}
use Rattle.cal_ast.specs.View.{expr_tree, ident_tree}
use Rattle.cal_lexer.specs.Lexeme.{Lexeme}
use Rattle.cal_print.specs.Tokens.{words, joined}
use Rattle.cal_print.proofs.Texts.{then, reword}
use Rattle.std.proofs.Common.{append_assoc}
use Rattle.cal_print.proofs.stmt.print_call.Goals as goal

pub returns : goal.returns
returns c =
    reword (then c.print_ident.ensures
    (then c.print_listed.ensures
    c.put.ensures))
    (ap (λ ws. words (ident_tree c.args.name.now) ++ (Lexeme.LeftParen ∷ ws)) (append_assoc (joined Lexeme.Comma (listed (map expr_tree c.args.args.now))) (Lexeme.RightParen ∷ []) (Lexeme.Semicolon ∷ [])))
