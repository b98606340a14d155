use Rattle.std.proofs.Common.{◌≡◌, ◌-◌}
use Rattle.priority_order.specs.Ranking.{is_above}
use Rattle.cal_model.specs.View.{actor_of}
use Rattle.determinacy_cert.specs.Failing.{all_states, each_from, failures, first, state_failures}
use Rattle.determinacy_cert.specs.Judging.{IsKnown}
use Rattle.determinacy_cert.proofs.certifier.first_failure.Given as goal

abbrev pub invariant-loop-state : goal.invariant-loop-state
invariant-loop-state l = record {
  known : IsKnown (actor_of l.t.actor.now) (is_above l.t.order) l.known;
  sought : first (each_from (all_states (actor_of l.t.actor.now) - l.state) l.state (λ s. state_failures (actor_of l.t.actor.now) (is_above l.t.order) s))
      ≡ first (failures (actor_of l.t.actor.now) (is_above l.t.order));
}
