use Rattle.std.proofs.Common.{◌≡◌, ◌∙◌, true, subst, sym}
use Rattle.std.specs.Prelude.{slice_index_or, is_some}
use Rattle.priority_order.specs.Ranking.{Ranking, is_above}
use Rattle.schedule_fsm.specs.Automaton.{Automaton, target}
use Rattle.guard_select.proofs.Lines.{eligible-at, outranked-at, exposed-at-last, some-is}
use Rattle.guard_select.proofs.exposing.is_exposed.Goals as goal

pub is_enabled-requires-clause-eligible : goal.is_enabled-requires-clause-eligible
is_enabled-requires-clause-eligible g c =
    eligible-at c.args.actor.now c.args.state c.args.cells.now.numbers (g.T.Tokens.tokens c.args.tokens.now) c.candidates-b-items.result.now c.candidates-b-items.ensures.eligible c.loop-b.b-index c.loop-b-test.true

pub returns-then-is_enabled-clause-exposed : goal.returns-then-is_enabled-clause-exposed
returns-then-is_enabled-clause-exposed g c =
    outranked-at c.args.actor.now c.args.state c.args.cells.now.numbers (g.T.Tokens.tokens c.args.tokens.now) c.candidates-b-items.result.now c.candidates-b-items.ensures.eligible
    c.loop-b.cells.numbers c.args.a c.loop-b.b-index c.loop-b.invariant.keeps.state c.loop-b-test.true
    (subst (λ (o : Ranking). is_above o (slice_index_or c.candidates-b-items.result.now c.loop-b.b-index 0) c.args.a ≡ true) c.order.ensures (sym c.above.ensures.answer ∙ c.if-above.true))
    (sym c.if-is_enabled.true ∙ c.is_enabled.ensures.enabled) c.loop-b.invariant.outranked

pub returns-clause-exposed : goal.returns-clause-exposed
returns-clause-exposed g c =
    exposed-at-last c.args.actor.now c.args.state c.args.cells.now.numbers (g.T.Tokens.tokens c.args.tokens.now) c.candidates-b-items.result.now c.candidates-b-items.ensures.eligible
    c.args.a c.loop-b.b-index c.loop-b-test.false (subst (λ (f : Automaton). is_some (target f c.args.state c.args.a) ≡ true) c.fsm.ensures (some-is (target c.fsm.result.now c.args.state c.args.a) (c.eligible.ensures.0 c.if-not-eligible.false))) (sym c.has_its_tokens.ensures ∙ c.if-not-has_its_tokens.false) c.loop-b.invariant.outranked
