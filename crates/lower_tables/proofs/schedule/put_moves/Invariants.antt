use Rattle.std.proofs.Common.{◌≡◌, ◌++◌, drop, map}
use Rattle.cal_model.specs.View.{move_view}
use Rattle.lower_tables.specs.Steps.{step_of}
use Rattle.lower_tables.proofs.schedule.put_moves.Given as goal

abbrev pub invariant-loop-step : goal.invariant-loop-step
invariant-loop-step l =
    l.steps.items ++ map step_of (map move_view (drop l.step-index l.moves))
    ≡ l.initial.steps.items ++ map step_of (map move_view l.moves)
