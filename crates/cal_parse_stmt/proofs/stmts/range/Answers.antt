use Rattle.std.proofs.Common.{◌≡◌, Err, rules}
use Rattle.cal_parse_stmt.proofs.Statements.{range_fails, range_no_name, range_no_in, range_no_from, range_no_to, range_read}
use Rattle.cal_parse_stmt.proofs.stmts.range.Goals as goal

pub returns-in_err-shape : goal.returns-in_err-shape
returns-in_err-shape c =
    let same : c.from_residual.result ≡ Err c.in_err-shape.field-0.0 = search rules in
    rw same (range_fails c.args.room c.args.tokens.now.now c.type_expr.new.tokens.now c.in_err-shape.field-0.0 c.in_err-shape.ensures)

pub returns-in_err-name : goal.returns-in_err-name
returns-in_err-name c =
    let same : c.from_residual-in_err-name.result ≡ Err c.in_err-name.field-0.0 = search rules in
    rw same (range_no_name c.args.room c.in_ok-shape.shape c.args.tokens.now.now c.type_expr.new.tokens.now c.in_ok-shape.ensures c.name.new.tokens.now c.in_err-name.field-0.0 c.in_err-name.ensures)

pub returns-in_err-expect : goal.returns-in_err-expect
returns-in_err-expect c =
    let same : c.from_residual-in_err-expect.result ≡ Err c.in_err-expect.field-0.0 = search rules in
    rw same (range_no_in c.args.room c.in_ok-shape.shape c.args.tokens.now.now c.type_expr.new.tokens.now c.in_ok-shape.ensures c.in_ok-name.name c.name.new.tokens.now c.in_ok-name.ensures c.expect.new.tokens.now c.in_err-expect.field-0.0 c.in_err-expect.ensures)

pub returns-in_err-from : goal.returns-in_err-from
returns-in_err-from c =
    let same : c.from_residual-in_err-from.result ≡ Err c.in_err-from.field-0.0 = search rules in
    rw same (range_no_from c.args.room c.in_ok-shape.shape c.args.tokens.now.now c.type_expr.new.tokens.now c.in_ok-shape.ensures c.in_ok-name.name c.name.new.tokens.now c.in_ok-name.ensures c.in_ok-expect.field-0 c.expect.new.tokens.now c.in_ok-expect.ensures c.expr_before.new.tokens.now c.in_err-from.field-0.0 c.in_err-from.ensures)

pub returns-in_err-to : goal.returns-in_err-to
returns-in_err-to c =
    let same : c.from_residual-in_err-to.result ≡ Err c.in_err-to.field-0.0 = search rules in
    rw same (range_no_to c.args.room c.in_ok-shape.shape c.args.tokens.now.now c.type_expr.new.tokens.now c.in_ok-shape.ensures c.in_ok-name.name c.name.new.tokens.now c.in_ok-name.ensures c.in_ok-expect.field-0 c.expect.new.tokens.now c.in_ok-expect.ensures c.in_ok-from.from c.expr_before.new.tokens.now c.in_ok-from.ensures c.expr_before-2.new.tokens.now c.in_err-to.field-0.0 c.in_err-to.ensures)

pub returns : goal.returns
returns c =
    range_read c.args.room c.in_ok-shape.shape c.args.tokens.now.now c.type_expr.new.tokens.now c.in_ok-shape.ensures c.in_ok-name.name c.name.new.tokens.now c.in_ok-name.ensures c.in_ok-expect.field-0 c.expect.new.tokens.now c.in_ok-expect.ensures c.in_ok-from.from c.expr_before.new.tokens.now c.in_ok-from.ensures c.in_ok-to.to c.expr_before-2.new.tokens.now c.in_ok-to.ensures
