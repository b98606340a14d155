use Rattle.std.proofs.Common.{◌≡◌, ◌-◌}
use Rattle.priority_order.specs.Ranking.{is_above}
use Rattle.cal_model.specs.View.{actor_of}
use Rattle.determinacy_cert.specs.Failing.{each_from, first, pair_failures, pairs_failures}
use Rattle.determinacy_cert.specs.Judging.{IsKnown}
use Rattle.determinacy_cert.proofs.certifier.pairs_failure_of.Given as goal

abbrev pub invariant-loop-b : goal.invariant-loop-b
invariant-loop-b l = record {
  known : IsKnown (actor_of l.t.actor.now) (is_above l.t.order) l.known;
  sought : first (each_from (l.t.actions - l.b) l.b (λ b. pair_failures (actor_of l.t.actor.now) (is_above l.t.order) l.state l.a b))
      ≡ first (pairs_failures (actor_of l.t.actor.now) (is_above l.t.order) l.state l.a);
}
