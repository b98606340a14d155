use Rattle.std.specs.Prelude.{map, vec_items, length, ◌-◌}
use Rattle.net_state.proofs.Narrowing.{IsNarrowing}
use Rattle.net_state.proofs.rooms.fix_rooms.Given as goal

abbrev pub invariant-loop-k : goal.invariant-loop-k
invariant-loop-k l = IsNarrowing (length l.links - l.k) l.links l.capacities l.waited (map vec_items l.fn.table) (map vec_items l.table)
