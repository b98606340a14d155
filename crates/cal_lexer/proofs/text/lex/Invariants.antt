use Rattle.std.proofs.Common.{◌-◌, length}
use Rattle.cal_lexer.specs.Lexeme.{plain_tokens}
use Rattle.cal_lexer.proofs.Steps.{SoFar}
use Rattle.cal_lexer.proofs.text.lex.Given as goal

abbrev pub invariant-loop-at : goal.invariant-loop-at
invariant-loop-at l = SoFar l.text (plain_tokens l.tokens.items) l.at

abbrev pub decreases-loop-at : goal.decreases-loop-at
decreases-loop-at l = length l.text - l.at
