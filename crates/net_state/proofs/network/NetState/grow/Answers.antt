use Rattle.std.proofs.Common.{◌≡◌, ◌++◌, take, drop, length, arith, rules}
use Rattle.net_state.proofs.Slices.{written_back}
use Rattle.net_state.proofs.network.NetState.grow.Goals as goal

pub invariant_of-self : goal.invariant_of-self
invariant_of-self g c =
    let capacities : take c.self.inside.capacities.len (c.grow_link.new.capacities ++ drop (length c.grow_link.new.capacities) c.self.inside.capacities.items) ≡ c.grow_link.new.capacities =
    written_back c.self.inside.capacities.items c.grow_link.new.capacities c.self.inside.capacities.len (omega (arith, c.grow_link.auto.capacities, c.deref_mut.ensures.len)) in
    let rooms : take c.self.inside.rooms.len (c.grow_link.new.rooms ++ drop (length c.grow_link.new.rooms) c.self.inside.rooms.items) ≡ c.grow_link.new.rooms =
    written_back c.self.inside.rooms.items c.grow_link.new.rooms c.self.inside.rooms.len (omega (arith, c.grow_link.auto.rooms, c.deref_mut-2.ensures.len)) in
    rw (capacities, rooms) (search rules)

pub returns : goal.returns
returns g c =
    let capacities : take c.self.inside.capacities.len (c.grow_link.new.capacities ++ drop (length c.grow_link.new.capacities) c.self.inside.capacities.items) ≡ c.grow_link.new.capacities =
    written_back c.self.inside.capacities.items c.grow_link.new.capacities c.self.inside.capacities.len (omega (arith, c.grow_link.auto.capacities, c.deref_mut.ensures.len)) in
    rw capacities (search rules)
