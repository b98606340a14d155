use Rattle.std.proofs.Common.{◌≡◌, Err, rules}
use Rattle.cal_parse_stmt.proofs.Statements.{no_place, place_fails, place_open, place_read}
use Rattle.cal_parse_stmt.proofs.stmts.place.Goals as goal

pub returns-in_err-expect : goal.returns-in_err-expect
returns-in_err-expect c =
    let same : c.from_residual.result ≡ Err c.in_err-expect.field-0.0 = search rules in
    rw same (no_place c.args.room c.args.tokens.now.now c.expect.new.tokens.now c.in_err-expect.field-0.0 c.in_err-expect.ensures)

pub returns-in_err-found : goal.returns-in_err-found
returns-in_err-found c =
    let same : c.from_residual-in_err-found.result ≡ Err c.in_err-found.field-0.0 = search rules in
    rw same (place_fails c.args.room c.in_ok-expect.field-0 c.args.tokens.now.now c.expect.new.tokens.now c.in_ok-expect.ensures c.expr.new.tokens.now c.in_err-found.field-0.0 c.in_err-found.ensures)

pub returns-in_err-expect-2 : goal.returns-in_err-expect-2
returns-in_err-expect-2 c =
    let same : c.from_residual-in_err-expect-2.result ≡ Err c.in_err-expect-2.field-0.0 = search rules in
    rw same (place_open c.args.room c.in_ok-expect.field-0 c.args.tokens.now.now c.expect.new.tokens.now c.in_ok-expect.ensures c.in_ok-found.found c.expr.new.tokens.now c.in_ok-found.ensures c.expect-2.new.tokens.now c.in_err-expect-2.field-0.0 c.in_err-expect-2.ensures)

pub returns : goal.returns
returns c = place_read c.args.room c.in_ok-expect.field-0 c.args.tokens.now.now c.expect.new.tokens.now c.in_ok-expect.ensures c.in_ok-found.found c.expr.new.tokens.now c.in_ok-found.ensures c.expect-2.new.tokens.now c.in_ok-expect-2.field-0 c.in_ok-expect-2.ensures
