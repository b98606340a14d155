use Rattle.std.proofs.Common.{◌≡◌, ℕ, zero, suc, ◌*◌, ◌<◌, ◌≤◌, List, [], ◌∷◌, min, length, subst, arith}
use Rattle.std.specs.Prelude.{None, slice_index_or}
use Rattle.net_state.specs.Held.{seen}
use Rattle.net_state.specs.Surveyed.{LacksFirst}
use Rattle.round_runner.specs.Bursting.{Sees}
use Rattle.network_runner.proofs.Closed.{closed_grown, closed_quiet, closed_stuck, grows, link_low, stuck}
use Rattle.network_runner.proofs.closing.close_idle.Goals as goal

pub returns-in_default-clause-closes : goal.returns-in_default-clause-closes
returns-in_default-clause-closes g c = λ net s stands sees.
    let held = seen g.A.Firing.cell c.args.net.now in
    let all : Sees (length held.cells) net s None = subst (λ o. Sees (length held.cells) net s o) c.in_default.is sees in
    closed_quiet net held c.args.grow s stands all

pub capacity-requires : goal.capacity-requires
capacity-requires g c = record {
  there = link_low (seen g.A.Firing.cell c.args.net.now) c.in-Some.field-0.inst.0 c.in-Some.field-0.action.0 c.in-Some-lacking.link.0 c.in-Some-lacking.ensures.some.lacks;
}

pub returns-then-capacity-grow-clause-closes : goal.returns-then-capacity-grow-clause-closes
returns-then-capacity-grow-clause-closes g c = λ net s stands sees.
    let held = seen g.A.Firing.cell c.args.net.now in
    let first : LacksFirst (length held.cells) net s c.in-Some.field-0.inst.0 c.in-Some.field-0.action.0 = subst (λ o. Sees (length held.cells) net s o) c.in-Some.is sees in
    closed_stuck net held c.args.grow s stands c.in-Some.field-0.inst c.in-Some.field-0.action c.in-Some-lacking.link
    (stuck net held c.args.grow s stands c.in-Some.field-0.inst.0 c.in-Some.field-0.action.0 first c.in-Some-lacking.ensures.as_ends c.in-Some-lacking.link.0 c.in-Some-lacking.ensures.some
    (omega (arith, c.if-capacity-grow.true, c.capacity.ensures)))

pub grow-capacity-requires-clause-queues : goal.grow-capacity-requires-clause-queues
grow-capacity-requires-clause-queues g c = (c.requires.queues c.in-Some.field-0.inst.0 c.in-Some.field-0.action.0 c.in-Some-lacking.link.0 c.in-Some-lacking.ensures.some.lacks).0

pub returns-clause-closes : goal.returns-clause-closes
returns-clause-closes g c = λ net s stands sees.
    let held = seen g.A.Firing.cell c.args.net.now in
    let new = seen g.A.Firing.cell c.grow-capacity.new.self in
    let first : LacksFirst (length held.cells) net s c.in-Some.field-0.inst.0 c.in-Some.field-0.action.0 = subst (λ o. Sees (length held.cells) net s o) c.in-Some.is sees in
    closed_grown net held c.args.grow s stands new c.in-Some-lacking.link c.grow-capacity.result
    (grows net held c.args.grow s stands c.in-Some.field-0.inst.0 c.in-Some.field-0.action.0 first c.in-Some-lacking.ensures.as_ends c.in-Some-lacking.link.0 c.in-Some-lacking.ensures.some
    c.grow-capacity.result (omega (arith, c.if-capacity-grow.false, c.capacity.ensures)) c.grow-capacity.ensures.doubled)
    c.grow-capacity.ensures.states

pub returns-clause-grows : goal.returns-clause-grows
returns-clause-grows g c =
    let held = seen g.A.Firing.cell c.args.net.now in
    let old = slice_index_or c.args.net.now.capacities c.in-Some-lacking.link.0 0 in
    let some : 0 < old = (c.requires.queues c.in-Some.field-0.inst.0 c.in-Some.field-0.action.0 c.in-Some-lacking.link.0 c.in-Some-lacking.ensures.some.lacks).1 in
    let below : old < c.args.grow = omega (arith, c.if-capacity-grow.false, c.capacity.ensures) in
    let is : c.grow-capacity.result ≡ min (2 * old) c.args.grow = c.grow-capacity.ensures.doubled in
    let more : old < c.grow-capacity.result = omega (arith, some, below, is) in
    let most : c.grow-capacity.result ≤ c.args.grow = omega (arith, is) in
    (some_low c.args.net.now.capacities c.in-Some-lacking.link.0 some, more, most, c.grow-capacity.ensures.capacities)
  where
    some_low : (xs : List ℕ) (l : ℕ) → 0 < slice_index_or xs l 0 → l < length xs
    some_low [] l some = absurd (omega (arith, some))
    some_low (x ∷ xs) zero some = omega arith
    some_low (x ∷ xs) (suc l) some = (let rest : l < length xs = some_low xs l some in omega (arith, rest))
