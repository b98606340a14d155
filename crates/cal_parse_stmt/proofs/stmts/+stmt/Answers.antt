use Rattle.std.proofs.Common.{◌≡◌, Err, rules, sym, ap, ◌∙◌, arith}
use Rattle.cal_grammar.specs.Program.{Gave}
use Rattle.cal_ast.specs.View.{body_tree, stmt_tree}
use Rattle.cal_lexer.specs.Lexeme.{Lexeme, placed, plain_tokens}
use Rattle.cal_parse_stmt.specs.Pieces.{else_rest}
use Rattle.cal_grammar.specs.Rules.{named, named_stmt_body, if_stmt_body, while_body, foreach_body, block_body}
use Rattle.cal_grammar.specs.Spells.{a_stmt, otherwise}
use Rattle.cal_lexer.specs.Words.{lexeme_of}
use Rattle.cal_parse_base.specs.declared.fault.Fault.TheVariants as faults
use Rattle.cal_parse_stmt.proofs.Loops.{again_more, again_none, again_fail, read_shorter}
use Rattle.cal_parse_stmt.proofs.Statements.{body_fails, body_unfinished, body_read, tells_on, does_if, stmt_high, stmt_named, stmt_if, stmt_while, stmt_foreach, stmt_block, stmt_none, if_no_test, if_no_first, if_no_other, if_read, other_none, behind_else, no_elsif, elsif_high, elsif_fails, elsif_read, else_fails, else_unfinished, else_read, while_no_test, while_no_body, while_read, foreach_no_range, foreach_no_body, foreach_read, block_no_vars, block_no_body, block_read}
use Rattle.cal_parse_base.proofs.Taking.{end_stood, none_stood}
use Rattle.cal_parse_stmt.proofs.StmtTrees.{tree_if, tree_while, tree_foreach, tree_block}
use Rattle.cal_parse_stmt.proofs.stmts.+stmt.Goals as goal

-- statements

pub stmts-returns-then-room-eq0 : goal.stmts-returns-then-room-eq0
stmts-returns-then-room-eq0 t c =
    again_fail c.args.room a_stmt stmt_tree c.args.tokens.now.now c.all.tokens.now c.all.found.items c.all.invariant (sym c.is_stmt.ensures ∙ c.all-test.true) c.all.tokens.now faults.TooHigh
    (stmt_high c.args.room (plain_tokens c.all.tokens.now) c.if-room-eq0.true (sym c.is_stmt.ensures ∙ c.all-test.true))

pub stmts-returns-in_err-next : goal.stmts-returns-in_err-next
stmts-returns-in_err-next t c =
    let same : c.from_residual.result ≡ Err c.in_err-next.field-0.0 = search rules in
    rw same (again_fail c.args.room a_stmt stmt_tree c.args.tokens.now.now c.all.tokens.now c.all.found.items c.all.invariant (sym c.is_stmt.ensures ∙ c.all-test.true) c.stmt.new.tokens.now c.in_err-next.field-0.0 c.in_err-next.ensures)

pub stmts-returns : goal.stmts-returns
stmts-returns t c = again_none c.args.room a_stmt stmt_tree c.args.tokens.now.now c.all.tokens.now c.all.found.items c.all.invariant (sym c.is_stmt.ensures ∙ c.all-test.false)

pub stmts-all-preserved : goal.stmts-all-preserved
stmts-all-preserved t c = again_more c.args.room a_stmt stmt_tree c.args.tokens.now.now c.all.tokens.now c.all.found.items c.all.invariant (sym c.is_stmt.ensures ∙ c.all-test.true) c.in_ok-next.next c.stmt.new.tokens.now c.in_ok-next.ensures c.push.new.self.items c.in_ok-push.ensures.items

pub stmts-all-smaller : goal.stmts-all-smaller
stmts-all-smaller t c = read_shorter c.args.room a_stmt (stmt_tree c.in_ok-next.next) c.all.tokens.now c.stmt.new.tokens.now (sym c.is_stmt.ensures ∙ c.all-test.true) c.in_ok-next.ensures

-- which statement it is

pub stmt-returns-then-is_name : goal.stmt-returns-then-is_name
stmt-returns-then-is_name t c =
    tells_on stmt_tree c.args.room a_stmt (named named_stmt_body) c.args.tokens.now.now c.args.tokens.now.now c.named_stmt.new.tokens.now c.named_stmt.result
    (stmt_named c.args.room c.args.tokens.now.now c.requires (sym c.is_name.ensures ∙ c.if-is_name.true))
    c.named_stmt.ensures

pub stmt-returns-then-is_word : goal.stmt-returns-then-is_word
stmt-returns-then-is_word t c =
    tells_on stmt_tree c.args.room a_stmt (if_stmt_body (λ x. x) (placed Lexeme.If c.take_word-at.result)) c.args.tokens.now.now c.take_word-at.new.tokens.now c.if_rest.new.tokens.now c.if_rest.result
    (stmt_if c.args.room c.args.tokens.now.now c.requires (sym c.is_name.ensures ∙ c.if-is_name.false) c.take_word-at.result c.take_word-at.new.tokens.now (sym c.is_word.ensures ∙ c.if-is_word.true) c.take_word-at.ensures)
    (does_if c.args.room c.take_word-at.result c.if_rest.result c.take_word-at.new.tokens.now c.if_rest.new.tokens.now c.if_rest.ensures)

pub stmt-returns-then-is_word-2 : goal.stmt-returns-then-is_word-2
stmt-returns-then-is_word-2 t c =
    tells_on stmt_tree c.args.room a_stmt (while_body (placed Lexeme.While c.take_word-at-then-is_word-2.result)) c.args.tokens.now.now c.take_word-at-then-is_word-2.new.tokens.now c.while_rest.new.tokens.now c.while_rest.result
    (stmt_while c.args.room c.args.tokens.now.now c.requires (sym c.is_name.ensures ∙ c.if-is_name.false) (sym c.is_word.ensures ∙ c.if-is_word.false) c.take_word-at-then-is_word-2.result c.take_word-at-then-is_word-2.new.tokens.now (sym c.is_word-2.ensures ∙ c.if-is_word-2.true) c.take_word-at-then-is_word-2.ensures)
    c.while_rest.ensures

pub stmt-returns-then-is_word-3 : goal.stmt-returns-then-is_word-3
stmt-returns-then-is_word-3 t c =
    tells_on stmt_tree c.args.room a_stmt (foreach_body (placed Lexeme.Foreach c.take_word-at-then-is_word-3.result)) c.args.tokens.now.now c.take_word-at-then-is_word-3.new.tokens.now c.foreach_rest.new.tokens.now c.foreach_rest.result
    (stmt_foreach c.args.room c.args.tokens.now.now c.requires (sym c.is_name.ensures ∙ c.if-is_name.false) (sym c.is_word.ensures ∙ c.if-is_word.false) (sym c.is_word-2.ensures ∙ c.if-is_word-2.false) c.take_word-at-then-is_word-3.result c.take_word-at-then-is_word-3.new.tokens.now (sym c.is_word-3.ensures ∙ c.if-is_word-3.true) c.take_word-at-then-is_word-3.ensures)
    c.foreach_rest.ensures

pub stmt-returns-then-is_word-4 : goal.stmt-returns-then-is_word-4
stmt-returns-then-is_word-4 t c =
    tells_on stmt_tree c.args.room a_stmt (block_body (placed Lexeme.Begin c.take_word-at-then-is_word-4.result)) c.args.tokens.now.now c.take_word-at-then-is_word-4.new.tokens.now c.block_rest.new.tokens.now c.block_rest.result
    (stmt_block c.args.room c.args.tokens.now.now c.requires (sym c.is_name.ensures ∙ c.if-is_name.false) (sym c.is_word.ensures ∙ c.if-is_word.false) (sym c.is_word-2.ensures ∙ c.if-is_word-2.false) (sym c.is_word-3.ensures ∙ c.if-is_word-3.false) c.take_word-at-then-is_word-4.result c.take_word-at-then-is_word-4.new.tokens.now (sym c.is_word-4.ensures ∙ c.if-is_word-4.true) c.take_word-at-then-is_word-4.ensures)
    c.block_rest.ensures

pub stmt-returns : goal.stmt-returns
stmt-returns t c =
    stmt_none c.args.room c.args.tokens.now.now c.requires (sym c.is_name.ensures ∙ c.if-is_name.false) (sym c.is_word.ensures ∙ c.if-is_word.false) (sym c.is_word-2.ensures ∙ c.if-is_word-2.false) (sym c.is_word-3.ensures ∙ c.if-is_word-3.false) (sym c.is_word-4.ensures ∙ c.if-is_word-4.false)

-- an `if`

pub if_rest-returns-in_err-test : goal.if_rest-returns-in_err-test
if_rest-returns-in_err-test t c =
    let same : c.from_residual.result ≡ Err c.in_err-test.field-0.0 = search rules in
    rw same (if_no_test c.args.room c.args.at c.args.tokens.now.now c.expr_before.new.tokens.now c.in_err-test.field-0.0 c.in_err-test.ensures)

pub if_rest-returns-in_err-yes : goal.if_rest-returns-in_err-yes
if_rest-returns-in_err-yes t c =
    let same : c.from_residual-in_err-yes.result ≡ Err c.in_err-yes.field-0.0 = search rules in
    rw same (if_no_first c.args.room c.args.at c.in_ok-test.test c.args.tokens.now.now c.expr_before.new.tokens.now c.in_ok-test.ensures c.stmts.new.tokens.now c.in_err-yes.field-0.0 c.in_err-yes.ensures)

pub if_rest-returns-in_err-no : goal.if_rest-returns-in_err-no
if_rest-returns-in_err-no t c =
    let same : c.from_residual-in_err-no.result ≡ Err c.in_err-no.field-0.0 = search rules in
    rw same (if_no_other c.args.room c.args.at c.in_ok-test.test c.args.tokens.now.now c.expr_before.new.tokens.now c.in_ok-test.ensures c.in_ok-yes.yes c.stmts.new.tokens.now c.in_ok-yes.ensures c.otherwise.new.tokens.now c.in_err-no.field-0.0 c.in_err-no.ensures)

pub if_rest-returns : goal.if_rest-returns
if_rest-returns t c = λ make w.
    if_read c.args.room c.args.at c.in_ok-test.test c.args.tokens.now.now c.expr_before.new.tokens.now c.in_ok-test.ensures c.in_ok-yes.yes c.stmts.new.tokens.now c.in_ok-yes.ensures c.in_ok-no.no c.otherwise.new.tokens.now c.in_ok-no.ensures make w
    ∙ ap (λ u. Gave (make u) (plain_tokens c.otherwise.new.tokens.now)) (sym (tree_if c.in_ok-test.test c.in_ok-yes.yes c.in_ok-no.no c.args.at))

pub otherwise-returns-then-finish : goal.otherwise-returns-then-finish
otherwise-returns-then-finish t c = other_none c.args.room c.args.tokens.now.now c.finish.new.tokens.now (end_stood Lexeme.If c.finish.result c.args.tokens.now.now c.finish.new.tokens.now c.finish.ensures c.if-finish.true)

pub otherwise-returns-then-is_word : goal.otherwise-returns-then-is_word
otherwise-returns-then-is_word t c =
    tells_on body_tree c.args.room otherwise else_rest c.args.tokens.now.now c.take_word.new.tokens.now c.else_rest.new.tokens.now c.else_rest.result
    (behind_else c.args.room c.args.tokens.now.now c.finish.new.tokens.now (none_stood Lexeme.If c.finish.result c.args.tokens.now.now c.finish.new.tokens.now c.finish.ensures c.if-finish.false) c.take_word.result c.take_word.new.tokens.now (sym c.is_word.ensures ∙ c.if-is_word.true) c.take_word.ensures)
    c.else_rest.ensures

pub otherwise-returns-then-not-is_word : goal.otherwise-returns-then-not-is_word
otherwise-returns-then-not-is_word t c =
    no_elsif c.args.room c.args.tokens.now.now c.finish.new.tokens.now (none_stood Lexeme.If c.finish.result c.args.tokens.now.now c.finish.new.tokens.now c.finish.ensures c.if-finish.false) (sym c.is_word.ensures ∙ c.if-is_word.false) (sym c.is_word-2.ensures ∙ c.if-not-is_word.true)

pub otherwise-returns-then-room-eq0 : goal.otherwise-returns-then-room-eq0
otherwise-returns-then-room-eq0 t c =
    elsif_high c.args.room c.args.tokens.now.now c.finish.new.tokens.now (none_stood Lexeme.If c.finish.result c.args.tokens.now.now c.finish.new.tokens.now c.finish.ensures c.if-finish.false) (sym c.is_word.ensures ∙ c.if-is_word.false) (sym c.is_word-2.ensures ∙ c.if-not-is_word.false) c.if-room-eq0.true

pub otherwise-returns-in_err-test : goal.otherwise-returns-in_err-test
otherwise-returns-in_err-test t c =
    let same : c.from_residual.result ≡ Err c.in_err-test.field-0.0 = search rules in
    rw same (elsif_fails c.args.room c.args.tokens.now.now c.finish.new.tokens.now (none_stood Lexeme.If c.finish.result c.args.tokens.now.now c.finish.new.tokens.now c.finish.ensures c.if-finish.false) (sym c.is_word.ensures ∙ c.if-is_word.false) (sym c.is_word-2.ensures ∙ c.if-not-is_word.false) (omega (arith, c.if-room-eq0.false)) c.take_word-at.result c.take_word-at.new.tokens.now c.take_word-at.ensures c.if_rest.new.tokens.now c.in_err-test.field-0.0 c.in_err-test.ensures)

pub otherwise-returns : goal.otherwise-returns
otherwise-returns t c =
    elsif_read c.args.room c.args.tokens.now.now c.finish.new.tokens.now (none_stood Lexeme.If c.finish.result c.args.tokens.now.now c.finish.new.tokens.now c.finish.ensures c.if-finish.false) (sym c.is_word.ensures ∙ c.if-is_word.false) (sym c.is_word-2.ensures ∙ c.if-not-is_word.false) (omega (arith, c.if-room-eq0.false)) c.take_word-at.result c.take_word-at.new.tokens.now c.take_word-at.ensures c.in_ok-test.test c.push.new.self c.if_rest.new.tokens.now (search rules) c.in_ok-test.ensures

pub else_rest-returns-in_err-no : goal.else_rest-returns-in_err-no
else_rest-returns-in_err-no t c =
    let same : c.from_residual.result ≡ Err c.in_err-no.field-0.0 = search rules in
    rw same (else_fails c.args.room c.args.tokens.now.now c.stmts.new.tokens.now c.in_err-no.field-0.0 c.in_err-no.ensures)

pub else_rest-returns-then-not-finish : goal.else_rest-returns-then-not-finish
else_rest-returns-then-not-finish t c = else_unfinished c.args.room c.in_ok-no.no c.args.tokens.now.now c.stmts.new.tokens.now c.finish.new.tokens.now c.in_ok-no.ensures (none_stood Lexeme.If c.finish.result c.stmts.new.tokens.now c.finish.new.tokens.now c.finish.ensures c.if-not-finish.true)

pub else_rest-returns : goal.else_rest-returns
else_rest-returns t c = else_read c.args.room c.in_ok-no.no c.args.tokens.now.now c.stmts.new.tokens.now c.finish.new.tokens.now c.in_ok-no.ensures (end_stood Lexeme.If c.finish.result c.stmts.new.tokens.now c.finish.new.tokens.now c.finish.ensures c.if-not-finish.false)

-- the other statements

pub while_rest-returns-in_err-test : goal.while_rest-returns-in_err-test
while_rest-returns-in_err-test t c =
    let same : c.from_residual.result ≡ Err c.in_err-test.field-0.0 = search rules in
    rw same (while_no_test c.args.room c.args.at c.args.tokens.now.now c.expr_before.new.tokens.now c.in_err-test.field-0.0 c.in_err-test.ensures)

pub while_rest-returns-in_err-body : goal.while_rest-returns-in_err-body
while_rest-returns-in_err-body t c =
    let same : c.from_residual-in_err-body.result ≡ Err c.in_err-body.field-0.0 = search rules in
    rw same (while_no_body c.args.room c.args.at c.in_ok-test.test c.args.tokens.now.now c.expr_before.new.tokens.now c.body_before.new.tokens.now c.in_err-body.field-0.0 c.in_ok-test.ensures c.in_err-body.ensures)

pub while_rest-returns : goal.while_rest-returns
while_rest-returns t c =
    while_read c.args.room c.args.at c.in_ok-test.test c.in_ok-body.body c.args.tokens.now.now c.expr_before.new.tokens.now c.body_before.new.tokens.now c.in_ok-test.ensures c.in_ok-body.ensures
    ∙ ap (λ u. Gave u (plain_tokens c.body_before.new.tokens.now)) (sym (tree_while c.in_ok-test.test c.in_ok-body.body c.args.at))

pub foreach_rest-returns-in_err-over : goal.foreach_rest-returns-in_err-over
foreach_rest-returns-in_err-over t c =
    let same : c.from_residual.result ≡ Err c.in_err-over.field-0.0 = search rules in
    rw same (foreach_no_range c.args.room c.args.at c.args.tokens.now.now c.range.new.tokens.now c.in_err-over.field-0.0 c.in_err-over.ensures)

pub foreach_rest-returns-in_err-body : goal.foreach_rest-returns-in_err-body
foreach_rest-returns-in_err-body t c =
    let same : c.from_residual-in_err-body.result ≡ Err c.in_err-body.field-0.0 = search rules in
    rw same (foreach_no_body c.args.room c.args.at c.in_ok-over.over c.args.tokens.now.now c.range.new.tokens.now c.body_before.new.tokens.now c.in_err-body.field-0.0 c.in_ok-over.ensures c.in_err-body.ensures)

pub foreach_rest-returns : goal.foreach_rest-returns
foreach_rest-returns t c =
    foreach_read c.args.room c.args.at c.in_ok-over.over c.in_ok-body.body c.args.tokens.now.now c.range.new.tokens.now c.body_before.new.tokens.now c.in_ok-over.ensures c.in_ok-body.ensures
    ∙ ap (λ u. Gave u (plain_tokens c.body_before.new.tokens.now)) (sym (tree_foreach c.in_ok-over.over.shape c.in_ok-over.over.name c.in_ok-over.over.from c.in_ok-over.over.to c.in_ok-body.body c.args.at))

pub block_rest-returns-in_err-vars : goal.block_rest-returns-in_err-vars
block_rest-returns-in_err-vars t c =
    let same : c.from_residual.result ≡ Err c.in_err-vars.field-0.0 = search rules in
    rw same (block_no_vars c.args.room c.args.at c.args.tokens.now.now c.block_vars.new.tokens.now c.in_err-vars.field-0.0 c.in_err-vars.ensures)

pub block_rest-returns-in_err-body : goal.block_rest-returns-in_err-body
block_rest-returns-in_err-body t c =
    let same : c.from_residual-in_err-body.result ≡ Err c.in_err-body.field-0.0 = search rules in
    rw same (block_no_body c.args.room c.args.at c.in_ok-vars.vars c.args.tokens.now.now c.block_vars.new.tokens.now c.body_before.new.tokens.now c.in_err-body.field-0.0 c.in_ok-vars.ensures c.in_err-body.ensures)

pub block_rest-returns : goal.block_rest-returns
block_rest-returns t c =
    block_read c.args.room c.args.at c.in_ok-vars.vars c.in_ok-body.body c.args.tokens.now.now c.block_vars.new.tokens.now c.body_before.new.tokens.now c.in_ok-vars.ensures c.in_ok-body.ensures
    ∙ ap (λ u. Gave u (plain_tokens c.body_before.new.tokens.now)) (sym (tree_block c.in_ok-vars.vars c.in_ok-body.body c.args.at))

pub body_before-returns-in_err-found : goal.body_before-returns-in_err-found
body_before-returns-in_err-found t c =
    let same : c.from_residual.result ≡ Err c.in_err-found.field-0.0 = search rules in
    rw same (body_fails c.args.room (lexeme_of c.args.opener) c.args.tokens.now.now c.stmts.new.tokens.now c.in_err-found.field-0.0 c.in_err-found.ensures)

pub body_before-returns-then-not-finish : goal.body_before-returns-then-not-finish
body_before-returns-then-not-finish t c = body_unfinished c.args.room (lexeme_of c.args.opener) c.in_ok-found.found c.args.tokens.now.now c.stmts.new.tokens.now c.finish.new.tokens.now c.in_ok-found.ensures (none_stood (lexeme_of c.args.opener) c.finish.result c.stmts.new.tokens.now c.finish.new.tokens.now c.finish.ensures c.if-not-finish.true)

pub body_before-returns : goal.body_before-returns
body_before-returns t c = body_read c.args.room (lexeme_of c.args.opener) c.in_ok-found.found c.args.tokens.now.now c.stmts.new.tokens.now c.finish.new.tokens.now c.in_ok-found.ensures (end_stood (lexeme_of c.args.opener) c.finish.result c.stmts.new.tokens.now c.finish.new.tokens.now c.finish.ensures c.if-not-finish.false)
