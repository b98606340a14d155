use Rattle.std.proofs.Common.{sym, ap, ◌∙◌}
use Rattle.cal_lexer.specs.Lexeme.{plain_tokens}
use Rattle.cal_parse_base.specs.Leading.{opened}
use Rattle.cal_parse_base.proofs.Taking.{opened_push}
use Rattle.cal_parse_base.proofs.pairs.take_opens.Goals as goal

pub opens-preserved : goal.opens-preserved
opens-preserved c =
    let qs = c.opens.opens.items in
    let new = plain_tokens c.take_word-at.new.tokens.now in
    c.opens.invariant
    ∙ ap (λ l. opened qs l) c.take_word-at.ensures
    ∙ sym (opened_push qs c.take_word-at.result new)
    ∙ ap (λ l. opened l new) (sym c.in_ok-push.ensures.items)
