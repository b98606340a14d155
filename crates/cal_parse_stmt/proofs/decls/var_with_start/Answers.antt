use Rattle.std.proofs.Common.{◌≡◌, Err, rules, sym, ap, ◌∙◌}
use Rattle.cal_grammar.specs.Program.{Gave}
use Rattle.cal_ast.specs.Places.{begins}
use Rattle.cal_ast.specs.Tree as tree
use Rattle.cal_ast.specs.Tree.{present}
use Rattle.cal_ast.specs.View.{expr_tree, ident_tree, type_tree, var_tree}
use Rattle.cal_lexer.specs.Lexeme.{plain_tokens}
use Rattle.cal_parse_stmt.proofs.Declarations.{value_fails, value_read}
use Rattle.cal_parse_stmt.proofs.decls.var_with_start.Goals as goal

pub returns-in_err-start : goal.returns-in_err-start
returns-in_err-start c =
    let same : c.from_residual.result ≡ Err c.in_err-start.field-0.0 = search rules in
    rw same (value_fails var_tree c.args.room (λ x. tree.var (type_tree c.args.shape) (ident_tree c.args.name) (present x) c.args.changes (begins (type_tree c.args.shape))) c.args.tokens.now.now c.expr.new.tokens.now c.in_err-start.field-0.0 c.in_err-start.ensures)

pub returns : goal.returns
returns c =
    value_read c.args.room (λ x. tree.var (type_tree c.args.shape) (ident_tree c.args.name) (present x) c.args.changes (begins (type_tree c.args.shape))) c.in_ok-start.start c.args.tokens.now.now c.expr.new.tokens.now c.in_ok-start.ensures
    ∙ ap (λ q. Gave (tree.var (type_tree c.args.shape) (ident_tree c.args.name) (present (expr_tree c.in_ok-start.start)) c.args.changes q) (plain_tokens c.expr.new.tokens.now)) (sym c.place_of-at.ensures)
