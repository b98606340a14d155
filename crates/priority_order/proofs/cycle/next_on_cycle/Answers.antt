use Rattle.std.proofs.Common.{◌≡◌, ℕ, true, false, get_or, Contains, ap, ◌∙◌, subst, arith}
use Rattle.std.specs.Prelude.{IsTrue}
use Rattle.std.proofs.lemmas.List.{get_or_default}
use Rattle.priority_order.specs.Ranking.{cell}
use Rattle.priority_order.proofs.Rings.{some_leads, next_is_on}
use Rattle.priority_order.proofs.cycle.next_on_cycle.Goals as goal

pub returns-then-table-place-clause-on_cycle : goal.returns-then-table-place-clause-on_cycle
returns-then-table-place-clause-on_cycle c =
    let pairs = c.args.pairs.now in
    let i = c.loop-above.above-index in
    let next : ℕ = (get_or pairs i (0, 0)).1 in
    let found : Contains pairs (c.args.current, next) = (i, c.loop-above-test.true, get_or_default pairs i (c.args.current, next) (0, 0) c.loop-above-test.true ∙ ap (λ k. (k, next)) c.if-above-current.true) in
    let set' : IsTrue (cell c.args.n c.args.table.now next c.args.current) = subst (λ k. get_or c.args.table.now k false ≡ true) c.place.ensures c.if-table-place.true in
    next_is_on pairs c.args.n c.args.table.now c.args.current c.requires.in_range c.requires.closed c.requires.current_in_range next (c.requires.in_range i (0, 0) c.loop-above-test.true).1 found set'

pub unreachable-requires : goal.unreachable-requires
unreachable-requires c =
    some_leads c.args.pairs.now c.args.n c.args.table.now c.args.current c.requires.in_range c.requires.closed c.requires.current_in_range c.requires.on_cycle
    (λ k inside e. c.loop-above.invariant k (omega arith) e)
