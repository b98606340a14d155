use Rattle.std.proofs.Common.{◌≡◌, Err, rules, sym, ap, ◌∙◌}
use Rattle.cal_grammar.specs.Program.{Gave}
use Rattle.cal_ast.specs.Tree as tree
use Rattle.cal_ast.specs.View.{ident_tree, type_tree}
use Rattle.cal_lexer.specs.Lexeme.{plain_tokens}
use Rattle.cal_parse_stmt.proofs.Declarations.{port_no_type, port_no_name, port_read}
use Rattle.cal_parse_stmt.proofs.decls.port.Goals as goal

pub returns-in_err-shape : goal.returns-in_err-shape
returns-in_err-shape c =
    let same : c.from_residual.result ≡ Err c.in_err-shape.field-0.0 = search rules in
    rw same (port_no_type c.args.room c.args.tokens.now.now c.type_expr.new.tokens.now c.in_err-shape.field-0.0 c.in_err-shape.ensures)

pub returns-in_err-name : goal.returns-in_err-name
returns-in_err-name c =
    let same : c.from_residual-in_err-name.result ≡ Err c.in_err-name.field-0.0 = search rules in
    rw same (port_no_name c.args.room (type_tree c.in_ok-shape.shape) c.args.tokens.now.now c.type_expr.new.tokens.now c.in_ok-shape.ensures c.name.new.tokens.now c.in_err-name.field-0.0 c.in_err-name.ensures)

pub returns : goal.returns
returns c =
    port_read c.args.room (type_tree c.in_ok-shape.shape) c.args.tokens.now.now c.type_expr.new.tokens.now c.in_ok-shape.ensures c.in_ok-name.name c.name.new.tokens.now c.in_ok-name.ensures
    ∙ ap (λ q. Gave (tree.port (type_tree c.in_ok-shape.shape) (ident_tree c.in_ok-name.name) q) (plain_tokens c.name.new.tokens.now)) (sym c.place_of-at.ensures)
