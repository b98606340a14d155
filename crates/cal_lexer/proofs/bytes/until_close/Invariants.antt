use Rattle.std.proofs.Common.{◌≡◌, ◌+◌, drop}
use Rattle.cal_lexer.specs.Lexis.{before, at_close}
use Rattle.cal_lexer.proofs.bytes.until_close.Given as goal

abbrev pub invariant-loop-i : goal.invariant-loop-i
invariant-loop-i l = before at_close l.text ≡ l.i + before at_close (drop l.i l.text)
