use Rattle.std.proofs.Common.{◌≡◌, ℕ, ◌<◌, length}
use Rattle.std.specs.Prelude.{slice_index}
use Rattle.cal_model.specs.Rates.{give}
use Rattle.cal_model.specs.View.{actor_of}
use Rattle.static_rates.proofs.static_actor.gives_of.Given as goal

abbrev pub invariant-loop-port : goal.invariant-loop-port
invariant-loop-port l = record {
  size : length l.numbers.items ≡ l.port;
  each : (port : ℕ) → port < l.port → slice_index l.numbers.items port ≡ give (actor_of l.b) 0 port;
}
