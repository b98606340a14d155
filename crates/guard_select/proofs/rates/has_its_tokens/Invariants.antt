use Rattle.std.proofs.Common.{◌≡◌, true}
use Rattle.lowered_actor.specs.Meaning.{need, has_on_first}
use Rattle.guard_select.proofs.rates.has_its_tokens.Given as goal

abbrev pub invariant-loop-port : goal.invariant-loop-port
invariant-loop-port g l = has_on_first (need l.actor l.a) (g.T.Tokens.tokens l.tokens) l.port ≡ true
