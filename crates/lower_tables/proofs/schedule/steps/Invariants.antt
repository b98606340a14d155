use Rattle.std.proofs.Common.{◌≡◌, map}
use Rattle.cal_model.specs.View.{action_view}
use Rattle.lower_tables.specs.Steps.{fixed_steps}
use Rattle.lower_tables.proofs.schedule.steps.Given as goal

abbrev pub invariant-loop-state : goal.invariant-loop-state
invariant-loop-state l = l.steps.items ≡ fixed_steps l.first l.stateless (map action_view l.b.actions.items) l.state
