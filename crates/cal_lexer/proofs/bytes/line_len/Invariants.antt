use Rattle.std.proofs.Common.{◌≡◌, ◌+◌, drop}
use Rattle.cal_lexer.specs.Lexis.{before, at_line_end}
use Rattle.cal_lexer.proofs.bytes.line_len.Given as goal

abbrev pub invariant-loop-i : goal.invariant-loop-i
invariant-loop-i l = before at_line_end l.text ≡ l.i + before at_line_end (drop l.i l.text)
