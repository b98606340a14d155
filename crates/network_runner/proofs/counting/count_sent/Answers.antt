use Rattle.std.proofs.Common.{length, map, ap, ◌∙◌, refl}
use Rattle.std.specs.Prelude.{slice_index_or}
use Rattle.rvc_base.specs.declared.scalar.Scalar.TheVariants.{Bool as Truth}
use Rattle.net_model.specs.declared.wiring.End.TheVariants.{Leaf as AtLeaf}
use Rattle.net_model.specs.declared.wiring.Link.{Link}
use Rattle.net_state.specs.Moving.{carried}
use Rattle.network_runner.specs.Counting.{sent_at}
use Rattle.network_runner.proofs.Filling.{at_place}
use Rattle.network_runner.proofs.Loops.{sent_more}
use Rattle.network_runner.proofs.counting.count_sent.Goals as goal

pub loop-l-preserved : goal.loop-l-preserved
loop-l-preserved g c =
    let cells = map g.A.Firing.cell c.args.net.now.cells in
    let links = c.args.links.now in
    let d : Link = record { from = AtLeaf (record { 0 = 0 }) 0; to = AtLeaf (record { 0 = 0 }) 0; capacity = 0; kind = Truth } in
    let link : Link = slice_index_or links c.loop-l.l d in
    c.count_link.ensures.sent ∙ (ap (λ counts. sent_at counts (length (carried cells link)) link.to) c.loop-l.invariant
    ∙ sent_more cells links c.loop-l.l link c.args.sent.now (at_place links c.loop-l.l d link c.loop-l-test.true refl))
