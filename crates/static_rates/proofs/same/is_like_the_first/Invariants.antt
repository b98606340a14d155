use Rattle.std.proofs.Common.{◌≡◌, ℕ, ◌<◌}
use Rattle.cal_model.specs.Rates.{need, give}
use Rattle.cal_model.specs.View.{actor_of}
use Rattle.static_rates.proofs.same.is_like_the_first.Given as goal

abbrev pub invariant-loop-port : goal.invariant-loop-port
invariant-loop-port l = (port : ℕ) → port < l.port → need (actor_of l.b) l.action port ≡ need (actor_of l.b) 0 port

abbrev pub invariant-loop-port-2 : goal.invariant-loop-port-2
invariant-loop-port-2 l = (port : ℕ) → port < l.port → give (actor_of l.b) l.action port ≡ give (actor_of l.b) 0 port
