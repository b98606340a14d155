use Rattle.std.proofs.Common.{◌≡◌, length}
use Rattle.cal_lexer.specs.Lexeme.{plain_tokens}
use Rattle.cal_parse_base.specs.Leading.{opened}
use Rattle.cal_parse_base.proofs.pairs.take_opens.Given as goal

abbrev pub invariant-opens : goal.invariant-opens
invariant-opens l = plain_tokens l.fn.tokens.now ≡ opened l.opens.items (plain_tokens l.tokens.now)

abbrev pub decreases-opens : goal.decreases-opens
decreases-opens l = length l.tokens.now
