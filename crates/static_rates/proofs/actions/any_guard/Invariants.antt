use Rattle.std.proofs.Common.{◌≡◌, length, map}
use Rattle.cal_model.specs.View.{action_view}
use Rattle.static_rates.specs.Static.{has_guard}
use Rattle.static_rates.proofs.actions.any_guard.Given as goal

abbrev pub invariant-loop-first : goal.invariant-loop-first
invariant-loop-first l = has_guard (map action_view l.left) ≡ has_guard (map action_view l.initial.left)

abbrev pub decreases-loop-first : goal.decreases-loop-first
decreases-loop-first l = length l.left
