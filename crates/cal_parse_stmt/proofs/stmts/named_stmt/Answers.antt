use Rattle.std.proofs.Common.{◌≡◌, Err, rules, sym, ◌∙◌}
use Rattle.cal_ast.specs.View.{ident_tree, stmt_tree}
use Rattle.cal_parse_stmt.specs.Pieces.{call_rest, assign_rest}
use Rattle.cal_grammar.specs.Rules.{named, named_stmt_body}
use Rattle.cal_parse_stmt.proofs.Statements.{named_call, named_assign, does_on}
use Rattle.cal_parse_stmt.proofs.Steps.{named_fails}
use Rattle.cal_parse_stmt.proofs.stmts.named_stmt.Goals as goal

pub returns-in_err-name : goal.returns-in_err-name
returns-in_err-name c =
    let same : c.from_residual.result ≡ Err c.in_err-name.field-0.0 = search rules in
    rw same (named_fails c.args.room named_stmt_body c.args.tokens.now.now c.name.new.tokens.now c.in_err-name.field-0.0 c.in_err-name.ensures)

pub returns-then-is_word : goal.returns-then-is_word
returns-then-is_word c =
    does_on stmt_tree c.args.room (named named_stmt_body) (call_rest (ident_tree c.in_ok-name.name) c.in_ok-name.name.at) c.args.tokens.now.now c.take_word.new.tokens.now c.call_rest.new.tokens.now c.call_rest.result
    (named_call c.args.room c.in_ok-name.name c.args.tokens.now.now c.name.new.tokens.now c.in_ok-name.ensures c.take_word.result c.take_word.new.tokens.now (sym c.is_word.ensures ∙ c.if-is_word.true) c.take_word.ensures)
    c.call_rest.ensures

pub returns : goal.returns
returns c =
    does_on stmt_tree c.args.room (named named_stmt_body) (assign_rest (ident_tree c.in_ok-name.name) c.in_ok-name.name.at) c.args.tokens.now.now c.name.new.tokens.now c.assign_rest.new.tokens.now c.assign_rest.result
    (named_assign c.args.room c.in_ok-name.name c.args.tokens.now.now c.name.new.tokens.now c.in_ok-name.ensures (sym c.is_word.ensures ∙ c.if-is_word.false))
    c.assign_rest.ensures
