use Rattle.std.proofs.Common.{◌≡◌, Err, rules, sym, ◌∙◌}
use Rattle.cal_parse_stmt.specs.Separator.{mark_of}
use Rattle.cal_lexer.specs.Words.{lexeme_of}
use Rattle.cal_parse_stmt.proofs.NameLists.{names_more, names_last, names_fail}
use Rattle.cal_parse_stmt.proofs.names.names.Goals as goal

pub returns-in_err-next : goal.returns-in_err-next
returns-in_err-next c =
    let same : c.from_residual.result ≡ Err c.in_err-next.field-0.0 = search rules in
    rw same (names_fail (mark_of c.args.between) (lexeme_of c.word-word.result) c.args.tokens.now.now c.names.tokens.now c.names.found.items c.names.invariant c.name.new.tokens.now c.in_err-next.field-0.0 c.in_err-next.ensures)

pub returns-then-not-is_word : goal.returns-then-not-is_word
returns-then-not-is_word c =
    names_last (mark_of c.args.between) (lexeme_of c.word-word.result) c.args.tokens.now.now c.names.tokens.now c.names.found.items c.names.invariant c.in_ok-next.next c.name.new.tokens.now c.in_ok-next.ensures (sym c.is_word.ensures ∙ c.if-not-is_word.true) c.push.new.self.items c.in_ok-push.ensures.items

pub names-preserved : goal.names-preserved
names-preserved c =
    names_more (mark_of c.args.between) (lexeme_of c.word-word.result) c.args.tokens.now.now c.names.tokens.now c.names.found.items c.names.invariant c.in_ok-next.next c.name.new.tokens.now c.take_word.new.tokens.now c.take_word.result c.in_ok-next.ensures c.take_word.ensures c.push.new.self.items c.in_ok-push.ensures.items
