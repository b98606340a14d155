use Rattle.std.proofs.Common.{map, length, arith, subst, ◌-◌}
use Rattle.std.specs.Prelude.{vec_items}
use Rattle.std.proofs.lemmas.List.{length-map}
use Rattle.std.proofs.lemmas.Option.{slice_get-get_or}
use Rattle.net_state.proofs.Coming.{next_place}
use Rattle.net_state.proofs.Narrowing.{IsNarrowing, narrowing_starts, narrowing_more, narrowing_all, place_stays}
use Rattle.net_state.proofs.rooms.fix_rooms.Goals as goal

pub loop-k-init : goal.loop-k-init
loop-k-init c = narrowing_starts _ c.args.links.now c.args.capacities.now c.args.waited.now _ (map vec_items c.widen_all.new.table) (omega arith) c.widen_all.ensures.shape
    (λ i p row low. c.widen_all.ensures.wide i p row (omega (arith, low, length-map c.args.table.now vec_items, c.widen_all.ensures.shape.rows)))

pub narrow-requires : goal.narrow-requires
narrow-requires c =
    let next = next_place (length c.args.links.now) c.loop-k.k c.loop-k-test.true in
    place_stays _ (map vec_items c.loop-k.table) _ c.loop-k.invariant.shape
    (c.requires.places (length c.args.links.now - 1 - c.loop-k.k) _ (slice_get-get_or c.args.links.now (length c.args.links.now - 1 - c.loop-k.k) _ next.0))

pub loop-k-preserved : goal.loop-k-preserved
loop-k-preserved c =
    let next = next_place (length c.args.links.now) c.loop-k.k c.loop-k-test.true in
    subst (λ n. IsNarrowing n c.args.links.now c.args.capacities.now c.args.waited.now (map vec_items c.args.table.now) (map vec_items c.narrow.new.table)) next.2
    (narrowing_more (length c.args.links.now - 1 - c.loop-k.k) c.args.links.now c.args.capacities.now c.args.waited.now
    (map vec_items c.args.table.now) (map vec_items c.loop-k.table) (map vec_items c.narrow.new.table) _
    (subst (λ n. IsNarrowing n c.args.links.now c.args.capacities.now c.args.waited.now (map vec_items c.args.table.now) (map vec_items c.loop-k.table)) next.1 c.loop-k.invariant)
    (slice_get-get_or c.args.links.now (length c.args.links.now - 1 - c.loop-k.k) _ next.0)
    (omega (arith, next.0, c.requires.each_holds)) (omega (arith, next.0, c.requires.each_waited)) c.narrow.ensures)

pub returns-clause-rooms : goal.returns-clause-rooms
returns-clause-rooms c = narrowing_all c.args.links.now c.args.capacities.now c.args.waited.now (map vec_items c.args.table.now) (map vec_items c.loop-k.table) _
    c.loop-k.invariant (omega (arith, c.loop-k-test.false))
