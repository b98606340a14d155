use Rattle.std.proofs.Common.{◌≡◌, Err, rules, sym, ap, ◌∙◌}
use Rattle.cal_grammar.specs.Program.{Gave}
use Rattle.cal_ast.specs.Tree as tree
use Rattle.cal_ast.specs.Tree.{present, absent}
use Rattle.cal_ast.specs.View.{expr_tree, ident_tree, type_tree}
use Rattle.cal_lexer.specs.Lexeme.{plain_tokens}
use Rattle.cal_parse_stmt.proofs.Declarations.{param_no_type, param_no_name, param_plain, param_no_start, param_default}
use Rattle.cal_parse_stmt.proofs.decls.param.Goals as goal

pub returns-in_err-shape : goal.returns-in_err-shape
returns-in_err-shape c =
    let same : c.from_residual.result ≡ Err c.in_err-shape.field-0.0 = search rules in
    rw same (param_no_type c.args.room c.args.tokens.now.now c.type_expr.new.tokens.now c.in_err-shape.field-0.0 c.in_err-shape.ensures)

pub returns-in_err-name : goal.returns-in_err-name
returns-in_err-name c =
    let same : c.from_residual-in_err-name.result ≡ Err c.in_err-name.field-0.0 = search rules in
    rw same (param_no_name c.args.room (type_tree c.in_ok-shape.shape) c.args.tokens.now.now c.type_expr.new.tokens.now c.in_ok-shape.ensures c.name.new.tokens.now c.in_err-name.field-0.0 c.in_err-name.ensures)

pub returns-then-not-is_word : goal.returns-then-not-is_word
returns-then-not-is_word c =
    param_plain c.args.room (type_tree c.in_ok-shape.shape) c.args.tokens.now.now c.type_expr.new.tokens.now c.in_ok-shape.ensures c.in_ok-name.name c.name.new.tokens.now c.in_ok-name.ensures (sym c.is_word.ensures ∙ c.if-not-is_word.true)
    ∙ ap (λ q. Gave (tree.param (type_tree c.in_ok-shape.shape) (ident_tree c.in_ok-name.name) absent q) (plain_tokens c.name.new.tokens.now)) (sym c.place_of-at.ensures)

pub returns-in_err-start : goal.returns-in_err-start
returns-in_err-start c =
    let same : c.from_residual-in_err-start.result ≡ Err c.in_err-start.field-0.0 = search rules in
    rw same (param_no_start c.args.room (type_tree c.in_ok-shape.shape) c.args.tokens.now.now c.type_expr.new.tokens.now c.in_ok-shape.ensures c.in_ok-name.name c.name.new.tokens.now c.in_ok-name.ensures c.take_word.result c.take_word.new.tokens.now (sym c.is_word.ensures ∙ c.if-not-is_word.false) c.take_word.ensures c.expr.new.tokens.now c.in_err-start.field-0.0 c.in_err-start.ensures)

pub returns : goal.returns
returns c =
    param_default c.args.room (type_tree c.in_ok-shape.shape) c.args.tokens.now.now c.type_expr.new.tokens.now c.in_ok-shape.ensures c.in_ok-name.name c.name.new.tokens.now c.in_ok-name.ensures c.take_word.result c.take_word.new.tokens.now (sym c.is_word.ensures ∙ c.if-not-is_word.false) c.take_word.ensures c.in_ok-start.start c.expr.new.tokens.now c.in_ok-start.ensures
    ∙ ap (λ q. Gave (tree.param (type_tree c.in_ok-shape.shape) (ident_tree c.in_ok-name.name) (present (expr_tree c.in_ok-start.start)) q) (plain_tokens c.expr.new.tokens.now)) (sym c.place_of-at.ensures)
