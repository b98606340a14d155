use Rattle.std.proofs.Common.{◌-◌, length}
use Rattle.cal_lexer.specs.Lexeme.{plain_tokens}
use Rattle.cal_lexer.proofs.NetSteps.{NetSoFar}
use Rattle.cal_lexer.proofs.net.lex_net.Given as goal

abbrev pub invariant-loop-at : goal.invariant-loop-at
invariant-loop-at l = NetSoFar l.text (plain_tokens l.tokens.items) l.at

abbrev pub decreases-loop-at : goal.decreases-loop-at
decreases-loop-at l = length l.text - l.at
