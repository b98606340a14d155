use Rattle.std.proofs.Common.{◌≡◌, map}
use Rattle.std.specs.List.{range_with_len}
use Rattle.cal_model.specs.View.{output_view}
use Rattle.action_lower.specs.FiringCode.{first_on}
use Rattle.lower_actor.proofs.sends.sends_of.Given as goal

abbrev pub invariant-loop-port : goal.invariant-loop-port
invariant-loop-port l = l.sends.items ≡ map (first_on (map output_view l.outputs) l.firsts) (range_with_len 0 l.port)
