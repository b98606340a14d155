use Rattle.std.proofs.Common.{◌≡◌, ℕ, ◌<◌, None, sym, subst}
use Rattle.priority_order.specs.Ranking.{is_above}
use Rattle.cal_model.specs.Actor.{Actor}
use Rattle.cal_model.specs.View.{actor_of}
use Rattle.determinacy_cert.specs.Failing.{all_states, failures, first, state_failures}
use Rattle.determinacy_cert.specs.Judging.{failure_view}
use Rattle.determinacy_cert.proofs.Firsts.{found_here, next_on}
use Rattle.determinacy_cert.proofs.certifier.first_failure.Goals as goal

pub returns-in-Some : goal.returns-in-Some
returns-in-Some c =
    let actor : Actor = actor_of c.args.t.now.actor.now in
    let f = λ (i : ℕ). state_failures actor (is_above c.args.t.now.order) i in
    let inside : c.loop-state.state < all_states actor = subst (λ n. c.loop-state.state < n) c.all_states-state-end.ensures c.loop-state-test.true in
    found_here (all_states actor) c.loop-state.state f (first (failures actor (is_above c.args.t.now.order))) (failure_view c.in-Some.failure) inside (sym c.in-Some.ensures.first) c.loop-state.invariant.sought

pub loop-state-preserved : goal.loop-state-preserved
loop-state-preserved c =
    let actor : Actor = actor_of c.args.t.now.actor.now in
    let f = λ (i : ℕ). state_failures actor (is_above c.args.t.now.order) i in
    let inside : c.loop-state.state < all_states actor = subst (λ n. c.loop-state.state < n) c.all_states-state-end.ensures c.loop-state-test.true in
    let none : None ≡ first (f c.loop-state.state) = c.in_default.ensures.first in
    record {
      known = c.state_failure.ensures.known;
      sought = next_on (all_states actor) c.loop-state.state f (first (failures actor (is_above c.args.t.now.order))) inside (sym none) c.loop-state.invariant.sought;
    }
