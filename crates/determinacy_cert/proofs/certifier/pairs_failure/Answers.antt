use Rattle.std.proofs.Common.{◌≡◌, ℕ, None, sym}
use Rattle.priority_order.specs.Ranking.{is_above}
use Rattle.cal_model.specs.View.{actor_of}
use Rattle.determinacy_cert.specs.Failing.{each_from, first, pairs_failures}
use Rattle.determinacy_cert.specs.Judging.{failure_view}
use Rattle.determinacy_cert.proofs.Firsts.{found_here, next_on}
use Rattle.determinacy_cert.proofs.certifier.pairs_failure.Goals as goal

pub returns-in-Some-clause-first : goal.returns-in-Some-clause-first
returns-in-Some-clause-first c =
    let f = λ (i : ℕ). pairs_failures (actor_of c.args.t.now.actor.now) (is_above c.args.t.now.order) c.args.state i in
    found_here c.args.t.now.actions c.loop-a.a f (first (each_from c.args.t.now.actions 0 f)) (failure_view c.in-Some.failure) c.loop-a-test.true (sym c.in-Some.ensures.first) c.loop-a.invariant.sought

pub loop-a-preserved : goal.loop-a-preserved
loop-a-preserved c =
    let f = λ (i : ℕ). pairs_failures (actor_of c.args.t.now.actor.now) (is_above c.args.t.now.order) c.args.state i in
    let none : None ≡ first (f c.loop-a.a) = c.in_default.ensures.first in
    record {
      known = c.pairs_failure_of.ensures.known;
      sought = next_on c.args.t.now.actions c.loop-a.a f (first (each_from c.args.t.now.actions 0 f)) c.loop-a-test.true (sym none) c.loop-a.invariant.sought;
    }
