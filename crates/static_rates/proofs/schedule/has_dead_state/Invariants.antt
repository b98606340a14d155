use Rattle.std.proofs.Common.{◌≡◌, ℕ, ◌<◌, true, map}
use Rattle.cal_model.specs.View.{move_view}
use Rattle.static_rates.specs.Moves.{leads_on}
use Rattle.static_rates.proofs.schedule.has_dead_state.Given as goal

abbrev pub invariant-loop-state : goal.invariant-loop-state
invariant-loop-state l = (s : ℕ) → s < l.state → leads_on (map move_view l.b.moves.items) s ≡ true
