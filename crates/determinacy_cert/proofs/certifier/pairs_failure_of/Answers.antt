use Rattle.std.proofs.Common.{◌≡◌, ℕ, suc, ◌-◌, false, None, length, ap, sym, ◌∙◌}
use Rattle.priority_order.specs.Ranking.{is_above}
use Rattle.cal_model.specs.Actor.{Actor}
use Rattle.cal_model.specs.Eligible.{eligible}
use Rattle.cal_model.specs.View.{actor_of}
use Rattle.determinacy_cert.specs.Failing.{first, pair_failures, pair_judged, pairs_failures}
use Rattle.determinacy_cert.specs.Judging.{failure_view}
use Rattle.determinacy_cert.proofs.Firsts.{found_here, next_on, none_listed}
use Rattle.determinacy_cert.proofs.Pairs.{pair_off}
use Rattle.determinacy_cert.proofs.certifier.pairs_failure_of.Goals as goal

pub returns-then-not-eligible-clause-first : goal.returns-then-not-eligible-clause-first
returns-then-not-eligible-clause-first c =
    let actor : Actor = actor_of c.args.t.now.actor.now in
    let off : eligible actor c.args.state c.args.a ≡ false = sym c.eligible.ensures ∙ c.if-not-eligible.true in
    sym (ap first
    (none_listed (length actor.actions - suc c.args.a) (suc c.args.a) (λ i. pair_failures actor (is_above c.args.t.now.order) c.args.state c.args.a i)
    (λ i. pair_off (eligible actor c.args.state c.args.a) (eligible actor c.args.state i) c.args.state c.args.a i (pair_judged actor (is_above c.args.t.now.order) c.args.a i) off)))

pub returns-in-Some-clause-first : goal.returns-in-Some-clause-first
returns-in-Some-clause-first c =
    let actor : Actor = actor_of c.args.t.now.actor.now in
    let f = λ (i : ℕ). pair_failures actor (is_above c.args.t.now.order) c.args.state c.args.a i in
    found_here c.args.t.now.actions c.loop-b.b f (first (pairs_failures actor (is_above c.args.t.now.order) c.args.state c.args.a)) (failure_view c.in-Some.failure)
    c.loop-b-test.true (sym c.in-Some.ensures.first) c.loop-b.invariant.sought

pub loop-b-preserved : goal.loop-b-preserved
loop-b-preserved c =
    let actor : Actor = actor_of c.args.t.now.actor.now in
    let f = λ (i : ℕ). pair_failures actor (is_above c.args.t.now.order) c.args.state c.args.a i in
    let none : None ≡ first (f c.loop-b.b) = c.in_default.ensures.first in
    record {
      known = c.pair_failure.ensures.known;
      sought = next_on c.args.t.now.actions c.loop-b.b f (first (pairs_failures actor (is_above c.args.t.now.order) c.args.state c.args.a)) c.loop-b-test.true (sym none) c.loop-b.invariant.sought;
    }
