use Rattle.std.proofs.Common.{ℕ, ◌<◌}
use Rattle.cal_model.specs.View.{actor_of}
use Rattle.static_rates.specs.Static.{HaveSameRates}
use Rattle.static_rates.proofs.same.are_alike.Given as goal

abbrev pub invariant-loop-action : goal.invariant-loop-action
invariant-loop-action l = (a : ℕ) → a < l.action → HaveSameRates (actor_of l.b) a 0
