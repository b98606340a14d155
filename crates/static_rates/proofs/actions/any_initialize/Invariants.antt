use Rattle.std.proofs.Common.{◌≡◌, length, map}
use Rattle.cal_model.specs.View.{action_view}
use Rattle.cal_model.specs.Eligible.{has_initialize}
use Rattle.static_rates.proofs.actions.any_initialize.Given as goal

abbrev pub invariant-loop-first : goal.invariant-loop-first
invariant-loop-first l = has_initialize (map action_view l.left) ≡ has_initialize (map action_view l.initial.left)

abbrev pub decreases-loop-first : goal.decreases-loop-first
decreases-loop-first l = length l.left
