use Rattle.std.proofs.Common.{◌≡◌, map}
use Rattle.std.specs.List.{range_with_len}
use Rattle.cal_model.specs.Rates.{give}
use Rattle.cal_model.specs.View.{actor_of}
use Rattle.lower_tables.proofs.rates.gives_of.Given as goal

abbrev pub invariant-loop-port : goal.invariant-loop-port
invariant-loop-port l = l.gives.items ≡ map (give (actor_of l.b) l.action) (range_with_len 0 l.port)
