use Rattle.std.proofs.Common.{[], ◌∷◌, ◌++◌, map, option_map, ap, append_assoc}
use Rattle.cal_ast.specs.Tree.{listed}
use Rattle.cal_ast.specs.View.{expr_tree, ident_tree, optional, optional_expr}
use Rattle.cal_lexer.specs.Lexeme.{Lexeme}
use Rattle.cal_print.specs.Tokens.{joined, label, under}
use Rattle.cal_print.proofs.Texts.{then, reword}
use Rattle.cal_print.proofs.Pieces.{said_of}
use Rattle.cal_print.proofs.action.OutputPart.print.Goals as goal

pub returns : goal.returns
returns c =
    let port = label (optional (option_map ident_tree c.args.self.now.port)) in
    let values = joined Lexeme.Comma (listed (map expr_tree c.args.self.now.values.items)) in
    let repeat = under Lexeme.Repeat (optional_expr c.args.self.now.repeat) in
    reword (then c.print_label.ensures
    (then (said_of expr_tree (λ xs. Lexeme.LeftBracket ∷ joined Lexeme.Comma xs ++ (Lexeme.RightBracket ∷ [])) c.deref.ensures.value c.print_listed.ensures)
    c.print_under.ensures))
    (ap (λ ws. port ++ (Lexeme.LeftBracket ∷ ws)) (append_assoc values (Lexeme.RightBracket ∷ []) repeat))
