use Rattle.std.proofs.Common.{◌≡◌, ◌-◌}
use Rattle.priority_order.specs.Ranking.{is_above}
use Rattle.cal_model.specs.View.{actor_of}
use Rattle.determinacy_cert.specs.Failing.{each_from, first, pairs_failures}
use Rattle.determinacy_cert.specs.Judging.{IsKnown}
use Rattle.determinacy_cert.proofs.certifier.pairs_failure.Given as goal

abbrev pub invariant-loop-a : goal.invariant-loop-a
invariant-loop-a l = record {
  known : IsKnown (actor_of l.t.actor.now) (is_above l.t.order) l.known;
  sought : first (each_from (l.t.actions - l.a) l.a (λ a. pairs_failures (actor_of l.t.actor.now) (is_above l.t.order) l.state a))
      ≡ first (each_from l.t.actions 0 (λ a. pairs_failures (actor_of l.t.actor.now) (is_above l.t.order) l.state a));
}
