use Rattle.std.proofs.Common.{◌≡◌, Err, rules, sym, ap, ◌∙◌}
use Rattle.cal_grammar.specs.Program.{Gave}
use Rattle.cal_lexer.specs.Lexeme.{plain_tokens}
use Rattle.cal_parse_stmt.proofs.Statements.{assign_fails, assign_no_sign, assign_no_value, assign_read}
use Rattle.cal_parse_stmt.proofs.StmtTrees.{tree_assign}
use Rattle.cal_parse_stmt.proofs.stmts.assign_rest.Goals as goal

pub returns-in_err-found : goal.returns-in_err-found
returns-in_err-found c =
    let same : c.from_residual.result ≡ Err c.in_err-found.field-0.0 = search rules in
    rw same (assign_fails c.args.room c.args.name c.args.tokens.now.now c.places.new.tokens.now c.in_err-found.field-0.0 c.in_err-found.ensures)

pub returns-in_err-expect : goal.returns-in_err-expect
returns-in_err-expect c =
    let same : c.from_residual-in_err-expect.result ≡ Err c.in_err-expect.field-0.0 = search rules in
    rw same (assign_no_sign c.args.room c.args.name c.in_ok-found.found c.args.tokens.now.now c.places.new.tokens.now c.in_ok-found.ensures c.expect.new.tokens.now c.in_err-expect.field-0.0 c.in_err-expect.ensures)

pub returns-in_err-value : goal.returns-in_err-value
returns-in_err-value c =
    let same : c.from_residual-in_err-value.result ≡ Err c.in_err-value.field-0.0 = search rules in
    rw same (assign_no_value c.args.room c.args.name c.in_ok-found.found c.args.tokens.now.now c.places.new.tokens.now c.in_ok-found.ensures c.in_ok-expect.field-0 c.expect.new.tokens.now c.in_ok-expect.ensures c.expr_before.new.tokens.now c.in_err-value.field-0.0 c.in_err-value.ensures)

pub returns : goal.returns
returns c =
    assign_read c.args.room c.args.name c.in_ok-found.found c.args.tokens.now.now c.places.new.tokens.now c.in_ok-found.ensures c.in_ok-expect.field-0 c.expect.new.tokens.now c.in_ok-expect.ensures c.in_ok-value.value c.expr_before.new.tokens.now c.in_ok-value.ensures
    ∙ ap (λ t. Gave t (plain_tokens c.expr_before.new.tokens.now)) (sym (tree_assign c.args.name c.in_ok-found.found c.in_ok-value.value c.args.name.at))
