use Rattle.std.proofs.Common.{◌≡◌, ℕ, ◌++◌, length, take, drop, arith, nat_lt}
use Rattle.std.specs.List.{IsFirstBest}
use Rattle.std.proofs.lemmas.List.{take_at}
use Rattle.priority_order.proofs.Rings.{cycle_from_ring}
use Rattle.priority_order.proofs.cycle.cycle_from.Goals as goal

pub returns : goal.returns
returns c =
    let new = c.turn_least_first.new.ring in
    let ring = c.in_ok-ring.ring.items in
    let turned : (k : ℕ) × IsFirstBest nat_lt ring (length ring) k × (new ≡ drop k ring ++ take k ring) = rw (← c.deref_mut.ensures.value) c.turn_least_first.ensures.turned in
    let width : length new ≡ c.in_ok-ring.ring.len = omega (arith, c.turn_least_first.auto.ring, c.deref_mut.ensures.len) in
    rw (take_at new (drop (length new) ring) c.in_ok-ring.ring.len width)
    (cycle_from_ring c.args.pairs.now ring new turned.0 c.in_ok-ring.ensures.ring c.in_ok-ring.ensures.distinct turned.1 turned.2)
