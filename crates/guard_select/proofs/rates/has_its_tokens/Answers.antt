use Rattle.std.proofs.Common.{◌≡◌, ◌<◌, ℕ, subst, sym, arith}
use Rattle.lowered_actor.specs.Actor.{Actor, action_of, number_on}
use Rattle.lowered_actor.specs.Meaning.{need}
use Rattle.guard_select.proofs.Takes.{lacks-on, need-is, read-number}
use Rattle.guard_select.proofs.rates.has_its_tokens.Goals as goal

pub returns-then-count-index : goal.returns-then-count-index
returns-then-count-index g c =
    let actor : Actor = c.args.actor.now in
    let is : need actor c.args.a c.loop-port.port ≡ number_on (action_of c.action.result.now).needs c.loop-port.port = need-is actor c.args.a c.loop-port.port (action_of c.action.result.now) c.action.ensures in
    let inside : c.loop-port.port < actor.ins = subst (λ (n : ℕ). c.loop-port.port < n) c.ins-port-end.ensures c.loop-port-test.true in
    let number : c.index.result.now ≡ number_on (action_of c.action.result.now).needs c.loop-port.port =
    read-number actor c.args.a (action_of c.action.result.now) c.loop-port.port c.index.result.now c.code-code.ensures.facts c.action.ensures inside c.index.ensures in
    let few = c.if-count-index.true in
    let count = c.count.ensures in
    sym (lacks-on (need actor c.args.a) (g.T.Tokens.tokens c.args.tokens.now) actor.ins c.loop-port.port inside (omega (arith, few, count, number, is)))
