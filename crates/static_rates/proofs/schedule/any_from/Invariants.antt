use Rattle.std.proofs.Common.{◌≡◌, length, map}
use Rattle.cal_model.specs.View.{move_view}
use Rattle.static_rates.specs.Moves.{leads_on}
use Rattle.static_rates.proofs.schedule.any_from.Given as goal

abbrev pub invariant-loop-first : goal.invariant-loop-first
invariant-loop-first l = leads_on (map move_view l.left) l.state ≡ leads_on (map move_view l.initial.left) l.state

abbrev pub decreases-loop-first : goal.decreases-loop-first
decreases-loop-first l = length l.left
