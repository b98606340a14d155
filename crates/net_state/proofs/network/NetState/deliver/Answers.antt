use Rattle.std.proofs.Common.{◌≡◌, ◌++◌, take, drop, length, arith, rules}
use Rattle.net_state.proofs.Fed.{rests_delivered}
use Rattle.net_state.proofs.Slices.{written_back}
use Rattle.net_state.proofs.network.NetState.deliver.Goals as goal

pub invariant_of-self : goal.invariant_of-self
invariant_of-self g c =
    let cells : take c.self.inside.cells.len (c.deliver_inside.new.cells ++ drop (length c.deliver_inside.new.cells) c.self.inside.cells.items) ≡ c.deliver_inside.new.cells =
    written_back c.self.inside.cells.items c.deliver_inside.new.cells c.self.inside.cells.len (omega (arith, c.deliver_inside.auto.cells, c.deref_mut.ensures.len)) in
    let waited : take c.self.inside.waited.len (c.deliver_inside.new.waited ++ drop (length c.deliver_inside.new.waited) c.self.inside.waited.items) ≡ c.deliver_inside.new.waited =
    written_back c.self.inside.waited.items c.deliver_inside.new.waited c.self.inside.waited.len (omega (arith, c.deliver_inside.auto.waited, c.deref_mut-2.ensures.len)) in
    let rooms : take c.self.inside.rooms.len (c.deliver_inside.new.rooms ++ drop (length c.deliver_inside.new.rooms) c.self.inside.rooms.items) ≡ c.deliver_inside.new.rooms =
    written_back c.self.inside.rooms.items c.deliver_inside.new.rooms c.self.inside.rooms.len (omega (arith, c.deliver_inside.auto.rooms, c.deref_mut-3.ensures.len)) in
    rw (cells, waited, rooms) (search rules)

pub returns : goal.returns
returns g c =
    let cells : take c.self.inside.cells.len (c.deliver_inside.new.cells ++ drop (length c.deliver_inside.new.cells) c.self.inside.cells.items) ≡ c.deliver_inside.new.cells =
    written_back c.self.inside.cells.items c.deliver_inside.new.cells c.self.inside.cells.len (omega (arith, c.deliver_inside.auto.cells, c.deref_mut.ensures.len)) in
    let waited : take c.self.inside.waited.len (c.deliver_inside.new.waited ++ drop (length c.deliver_inside.new.waited) c.self.inside.waited.items) ≡ c.deliver_inside.new.waited =
    written_back c.self.inside.waited.items c.deliver_inside.new.waited c.self.inside.waited.len (omega (arith, c.deliver_inside.auto.waited, c.deref_mut-2.ensures.len)) in
    rw (cells, waited) (search (rules, rests_delivered))
