use Rattle.std.specs.Prelude.{map, take, ◌≡◌}
use Rattle.net_state.specs.Held.{HoldFew, capacity_of}
use Rattle.network_runner.proofs.making.copy_of.Given as goal

abbrev pub invariant-loop-l : goal.invariant-loop-l
invariant-loop-l l = (l.copy.items ≡ take l.l l.links) × HoldFew (map capacity_of l.copy.items)
