use Rattle.std.proofs.Common.{◌≡◌, Err, rules, sym, ◌∙◌}
use Rattle.cal_lexer.specs.Words.{lexeme_of}
use Rattle.cal_parse_stmt.proofs.Statements.{expr_fails, expr_alone, expr_read}
use Rattle.cal_parse_stmt.proofs.stmts.expr_before.Goals as goal

pub returns-in_err-found : goal.returns-in_err-found
returns-in_err-found c =
    let same : c.from_residual.result ≡ Err c.in_err-found.field-0.0 = search rules in
    rw same (expr_fails c.args.room (lexeme_of c.args.word) c.args.tokens.now.now c.expr.new.tokens.now c.in_err-found.field-0.0 c.in_err-found.ensures)

pub returns-then-not-is_word : goal.returns-then-not-is_word
returns-then-not-is_word c = expr_alone c.args.room (lexeme_of c.args.word) c.in_ok-found.found c.args.tokens.now.now c.expr.new.tokens.now c.in_ok-found.ensures (sym c.is_word.ensures ∙ c.if-not-is_word.true)

pub returns : goal.returns
returns c = expr_read c.args.room (lexeme_of c.args.word) c.in_ok-found.found c.args.tokens.now.now c.expr.new.tokens.now c.take_word.new.tokens.now c.take_word.result c.in_ok-found.ensures (sym c.is_word.ensures ∙ c.if-not-is_word.false) c.take_word.ensures
