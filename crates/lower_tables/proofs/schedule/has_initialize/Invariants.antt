use Rattle.std.proofs.Common.{◌≡◌, drop, map}
use Rattle.cal_model.specs.Eligible.{has_initialize}
use Rattle.cal_model.specs.View.{action_view}
use Rattle.lower_tables.proofs.schedule.has_initialize.Given as goal

abbrev pub invariant-loop-action : goal.invariant-loop-action
invariant-loop-action l = has_initialize (map action_view (drop l.action-index l.actions)) ≡ has_initialize (map action_view l.actions)
