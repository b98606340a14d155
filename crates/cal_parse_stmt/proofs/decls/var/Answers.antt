use Rattle.std.proofs.Common.{◌≡◌, Err, rules}
use Rattle.cal_ast.specs.View.{type_tree, var_tree}
use Rattle.cal_grammar.specs.Rules.{part, var_tail}
use Rattle.cal_grammar.specs.Spells.{a_var}
use Rattle.cal_parse_stmt.proofs.Declarations.{tells_jump, var_no_type, var_tailed}
use Rattle.cal_parse_stmt.proofs.decls.var.Goals as goal

pub returns-in_err-shape : goal.returns-in_err-shape
returns-in_err-shape c =
    let same : c.from_residual.result ≡ Err c.in_err-shape.field-0.0 = search rules in
    rw same (var_no_type c.args.room c.args.tokens.now.now c.type_expr.new.tokens.now c.in_err-shape.field-0.0 c.in_err-shape.ensures)

pub returns : goal.returns
returns c =
    tells_jump var_tree c.args.room (part a_var) (var_tail (type_tree c.in_ok-shape.shape)) c.args.tokens.now.now c.type_expr.new.tokens.now c.var_after.new.tokens.now c.var_after.result
    (var_tailed c.args.room (type_tree c.in_ok-shape.shape) c.args.tokens.now.now c.type_expr.new.tokens.now c.in_ok-shape.ensures) c.var_after.ensures
