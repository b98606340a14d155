use Rattle.std.proofs.Common.{◌≡◌, Err, rules, sym, ap, ◌∙◌}
use Rattle.cal_grammar.specs.Program.{Gave}
use Rattle.cal_lexer.specs.Lexeme.{plain_tokens}
use Rattle.cal_parse_stmt.proofs.Statements.{call_fails, call_open, call_endless, call_read}
use Rattle.cal_parse_stmt.proofs.StmtTrees.{tree_call}
use Rattle.cal_parse_stmt.proofs.stmts.call_rest.Goals as goal

pub returns-in_err-given : goal.returns-in_err-given
returns-in_err-given c =
    let same : c.from_residual.result ≡ Err c.in_err-given.field-0.0 = search rules in
    rw same (call_fails c.args.room c.args.name c.args.tokens.now.now c.args-2.new.tokens.now c.in_err-given.field-0.0 c.in_err-given.ensures)

pub returns-in_err-expect : goal.returns-in_err-expect
returns-in_err-expect c =
    let same : c.from_residual-in_err-expect.result ≡ Err c.in_err-expect.field-0.0 = search rules in
    rw same (call_open c.args.room c.args.name c.in_ok-given.given c.args.tokens.now.now c.args-2.new.tokens.now c.in_ok-given.ensures c.expect.new.tokens.now c.in_err-expect.field-0.0 c.in_err-expect.ensures)

pub returns-in_err-expect-2 : goal.returns-in_err-expect-2
returns-in_err-expect-2 c =
    let same : c.from_residual-in_err-expect-2.result ≡ Err c.in_err-expect-2.field-0.0 = search rules in
    rw same (call_endless c.args.room c.args.name c.in_ok-given.given c.args.tokens.now.now c.args-2.new.tokens.now c.in_ok-given.ensures c.in_ok-expect.field-0 c.expect.new.tokens.now c.in_ok-expect.ensures c.expect-2.new.tokens.now c.in_err-expect-2.field-0.0 c.in_err-expect-2.ensures)

pub returns : goal.returns
returns c =
    call_read c.args.room c.args.name c.in_ok-given.given c.args.tokens.now.now c.args-2.new.tokens.now c.in_ok-given.ensures c.in_ok-expect.field-0 c.expect.new.tokens.now c.in_ok-expect.ensures c.expect-2.new.tokens.now c.in_ok-expect-2.field-0 c.in_ok-expect-2.ensures
    ∙ ap (λ t. Gave t (plain_tokens c.expect-2.new.tokens.now)) (sym (tree_call c.args.name c.in_ok-given.given c.args.name.at))
