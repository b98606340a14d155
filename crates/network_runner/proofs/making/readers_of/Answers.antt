use Rattle.std.proofs.Common.{◌+◌, take, subst, sym, refl}
use Rattle.std.specs.Prelude.{slice_index_or}
use Rattle.rvc_base.specs.declared.scalar.Scalar.TheVariants.{Bool as Truth}
use Rattle.net_model.specs.declared.wiring.End.TheVariants.{Leaf as AtLeaf}
use Rattle.net_model.specs.declared.wiring.Link.{Link}
use Rattle.network_runner.specs.Making.{AreReadersOf}
use Rattle.network_runner.proofs.Filling.{at_place}
use Rattle.network_runner.proofs.Loops.{readers_more}
use Rattle.network_runner.proofs.making.readers_of.Goals as goal

pub loop-l-preserved : goal.loop-l-preserved
loop-l-preserved c =
    let links = c.args.links.now in
    let d : Link = record { from = AtLeaf (record { 0 = 0 }) 0; to = AtLeaf (record { 0 = 0 }) 0; capacity = 0; kind = Truth } in
    let link : Link = slice_index_or links c.loop-l.l d in
    subst (AreReadersOf c.args.ins.now c.args.open_ins.now (take (c.loop-l.l + 1) links)) (sym c.in_ok-push.ensures.items)
    (readers_more c.args.ins.now c.args.open_ins.now links c.loop-l.readers.items c.loop-l.l link c.in_ok-reader.reader (at_place links c.loop-l.l d link c.loop-l-test.true refl) c.loop-l.invariant c.in_ok-reader.ensures)
