use Rattle.std.proofs.Common.{◌≡◌, Err, rules, sym, ◌∙◌}
use Rattle.cal_parse_stmt.proofs.Statements.{vars_none, vars_fail, vars_alone, vars_read}
use Rattle.cal_parse_stmt.proofs.stmts.block_vars.Goals as goal

pub returns-then-not-is_word : goal.returns-then-not-is_word
returns-then-not-is_word c = vars_none c.args.room c.new.result c.args.tokens.now.now c.new.ensures.items (sym c.is_word.ensures ∙ c.if-not-is_word.true)

pub returns-in_err-vars : goal.returns-in_err-vars
returns-in_err-vars c =
    let same : c.from_residual.result ≡ Err c.in_err-vars.field-0.0 = search rules in
    rw same (vars_fail c.args.room c.take_word.result c.args.tokens.now.now c.take_word.new.tokens.now (sym c.is_word.ensures ∙ c.if-not-is_word.false) c.take_word.ensures c.separated.new.tokens.now c.in_err-vars.field-0.0 c.in_err-vars.ensures)

pub returns-in_err-expect : goal.returns-in_err-expect
returns-in_err-expect c =
    let same : c.from_residual-in_err-expect.result ≡ Err c.in_err-expect.field-0.0 = search rules in
    rw same (vars_alone c.args.room c.take_word.result c.args.tokens.now.now c.take_word.new.tokens.now (sym c.is_word.ensures ∙ c.if-not-is_word.false) c.take_word.ensures c.in_ok-vars.vars c.separated.new.tokens.now c.expect.new.tokens.now c.in_err-expect.field-0.0 c.in_ok-vars.ensures c.in_err-expect.ensures)

pub returns : goal.returns
returns c =
    vars_read c.args.room c.take_word.result c.args.tokens.now.now c.take_word.new.tokens.now (sym c.is_word.ensures ∙ c.if-not-is_word.false) c.take_word.ensures c.in_ok-vars.vars c.separated.new.tokens.now c.expect.new.tokens.now c.in_ok-expect.field-0 c.in_ok-vars.ensures c.in_ok-expect.ensures
