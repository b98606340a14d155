use Rattle.std.proofs.Common.{◌≡◌, ◌++◌, drop, map}
use Rattle.cal_model.specs.View.{action_view}
use Rattle.lower_tables.specs.Steps.{fixed_from}
use Rattle.lower_tables.proofs.schedule.put_fixed.Given as goal

abbrev pub invariant-loop-action : goal.invariant-loop-action
invariant-loop-action l = (l.number ≡ l.action-index)
    × (l.steps.items ++ fixed_from l.first l.stateless l.state l.number (map action_view (drop l.action-index l.actions))
    ≡ l.initial.steps.items ++ fixed_from l.first l.stateless l.state 0 (map action_view l.actions))
