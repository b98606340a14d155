use Rattle.std.proofs.Common.{◌≡◌, Err, rules, sym, ◌∙◌, arith}
use Rattle.cal_parse_stmt.specs.Separator.{mark_of}
use Rattle.cal_lexer.specs.Words.{lexeme_of}
use Rattle.cal_parse_stmt.proofs.Loops.{parts_more, parts_last, parts_fail, read_no_longer}
use Rattle.cal_parse_base.proofs.Taking.{took_less}
use Rattle.cal_parse_stmt.proofs.lists.separated.Goals as goal

pub returns-in_err-next : goal.returns-in_err-next
returns-in_err-next g c =
    let same : c.from_residual.result ≡ Err c.in_err-next.field-0.0 = search rules in
    rw same (parts_fail g.T.Read.tree c.args.room (mark_of c.args.between) g.T.Read.part c.args.tokens.now.now c.parts.tokens.now c.parts.found.items c.parts.invariant c.read.new.tokens.now c.in_err-next.field-0.0 c.in_err-next.ensures)

pub returns-then-not-is_word : goal.returns-then-not-is_word
returns-then-not-is_word g c =
    parts_last g.T.Read.tree c.args.room (mark_of c.args.between) g.T.Read.part c.args.tokens.now.now c.parts.tokens.now c.parts.found.items c.parts.invariant (lexeme_of c.word-word.result) c.word-word.ensures c.in_ok-next.next c.read.new.tokens.now c.in_ok-next.ensures (sym c.is_word.ensures ∙ c.if-not-is_word.true) c.push.new.self.items c.in_ok-push.ensures.items

pub parts-preserved : goal.parts-preserved
parts-preserved g c =
    parts_more g.T.Read.tree c.args.room (mark_of c.args.between) g.T.Read.part c.args.tokens.now.now c.parts.tokens.now c.parts.found.items c.parts.invariant (lexeme_of c.word-word.result) c.word-word.ensures c.in_ok-next.next c.read.new.tokens.now c.take_word.new.tokens.now c.take_word.result c.in_ok-next.ensures c.take_word.ensures c.push.new.self.items c.in_ok-push.ensures.items

pub parts-smaller : goal.parts-smaller
parts-smaller g c =
    let part = read_no_longer c.args.room g.T.Read.part (g.T.Read.tree c.in_ok-next.next) c.parts.tokens.now c.read.new.tokens.now c.in_ok-next.ensures in
    let word = took_less (lexeme_of c.word-word.result) c.take_word.result c.read.new.tokens.now c.take_word.new.tokens.now c.take_word.ensures in
    omega (arith, part, word)
