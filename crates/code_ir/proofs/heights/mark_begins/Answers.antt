use Rattle.std.proofs.Common.{◌<◌, length, arith, get_or}
use Rattle.code_ir.proofs.Marks.{among-at, begins-more, begun-more}
use Rattle.code_ir.proofs.heights.mark_begins.Goals as goal

pub mark-requires : goal.mark-requires
mark-requires c =
    let inside : c.loop-place.place-index < length c.args.places.now = omega arith in
    let below = c.requires.inside (get_or c.args.places.now c.loop-place.place-index 0) (among-at c.args.places.now c.loop-place.place-index inside) in
    omega (arith, below, c.loop-place.invariant.grows.size)

pub loop-place-preserved : goal.loop-place-preserved
loop-place-preserved c =
    let inside : c.loop-place.place-index < length c.args.places.now = omega arith in
    record {
      grows = begins-more c.args.places.now c.loop-place.work.items c.mark.new.work.items c.args.heights.now.items c.loop-place.heights.items c.mark.new.heights.items c.loop-place.place-index inside c.loop-place.invariant.grows c.in-Done.ensures.grows;
      begun = begun-more c.args.places.now c.loop-place.heights.items c.mark.new.heights.items c.loop-place.place-index inside c.loop-place.invariant.begun c.in-Done.ensures.grows.keeps c.in-Done.ensures.marked;
    }
