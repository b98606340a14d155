use Rattle.std.specs.Prelude.{map, take, ◌≡◌}
use Rattle.net_state.specs.Held.{HoldFew, capacity_of}
use Rattle.net_state.proofs.tables.first_capacities.Given as goal

abbrev pub invariant-loop-l : goal.invariant-loop-l
invariant-loop-l l = (l.capacities.items ≡ map capacity_of (take l.l l.links)) × HoldFew l.capacities.items
