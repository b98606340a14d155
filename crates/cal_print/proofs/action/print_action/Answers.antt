use Rattle.std.proofs.Common.{◌∷◌, map, option_map, sym}
use Rattle.cal_ast.specs.Tree.{listed}
use Rattle.cal_ast.specs.View.{body_tree, expr_tree, optional, output_tree, pattern_tree, tag_tree, var_tree}
use Rattle.cal_lexer.specs.Lexeme.{Lexeme}
use Rattle.cal_print.specs.Tokens.{joined, where_any}
use Rattle.cal_print.proofs.Texts.{then, reword}
use Rattle.cal_print.proofs.Pieces.{said_of, action_words}
use Rattle.cal_print.proofs.action.print_action.Goals as goal

pub returns : goal.returns
returns c =
    let name = optional (option_map tag_tree c.args.action.now.tag) in
    let patterns = listed (map pattern_tree c.args.action.now.patterns.items) in
    let outputs = listed (map output_tree c.args.action.now.outputs.items) in
    let guards = listed (map expr_tree c.args.action.now.guards.items) in
    let vars = listed (map var_tree c.args.action.now.vars.items) in
    reword (then c.print_label.ensures (then c.print_inputs.ensures
    (then c.put.ensures
    (then (then (then (then (said_of output_tree (joined Lexeme.Comma) c.deref.ensures.value c.print_joined.ensures)
    (said_of expr_tree (λ xs. where_any xs (Lexeme.Guard ∷ joined Lexeme.Comma xs)) c.deref-2.ensures.value c.print_introduced.ensures))
    (said_of var_tree (λ xs. where_any xs (Lexeme.Var ∷ joined Lexeme.Comma xs)) c.deref-3.ensures.value c.print_introduced-2.ensures))
    c.print_body.ensures)
    c.put-2.ensures))))
    (sym (action_words name c.args.action.now.initialize patterns outputs guards vars (body_tree c.args.action.now.body) c.args.action.now.at))
