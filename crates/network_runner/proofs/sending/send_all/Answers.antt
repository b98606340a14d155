use Rattle.std.proofs.Common.{map, refl}
use Rattle.std.specs.Prelude.{slice_index_or}
use Rattle.rvc_base.specs.declared.scalar.Scalar.TheVariants.{Bool as Truth}
use Rattle.net_model.specs.declared.wiring.End.TheVariants.{Leaf as AtLeaf}
use Rattle.net_model.specs.declared.wiring.Link.{Link}
use Rattle.network_runner.proofs.Filling.{at_place}
use Rattle.network_runner.proofs.Sent.{on_err, sending_breaks, sending_more, sending_starts}
use Rattle.network_runner.proofs.sending.send_all.Goals as goal

pub loop-l-init : goal.loop-l-init
loop-l-init g c = sending_starts (map g.A.Firing.cell c.args.net.now.cells) c.args.outlets.now c.args.links.now (g.D.Drains.channels c.args.drains.now) c.args.writers.now

pub returns-in_err-send_link-clause-fronts : goal.returns-in_err-send_link-clause-fronts
returns-in_err-send_link-clause-fronts g c =
    let d : Link = record { from = AtLeaf (record { 0 = 0 }) 0; to = AtLeaf (record { 0 = 0 }) 0; capacity = 0; kind = Truth } in
    let links = c.args.links.now in
    let link = slice_index_or links c.loop-l.l d in
    on_err c.from_residual.result _
    (sending_breaks (map g.A.Firing.cell c.args.net.now.cells) c.args.outlets.now links c.loop-l.l link (at_place links c.loop-l.l d link c.loop-l-test.true refl)
    (g.D.Drains.channels c.args.drains.now) (g.D.Drains.channels c.loop-l.drains) (g.D.Drains.channels c.send_link.new.drains) c.args.writers.now c.loop-l.writers c.send_link.new.writers
    c.loop-l.invariant c.in_err-send_link.ensures.only c.in_err-send_link.ensures.fronts)

pub loop-l-preserved : goal.loop-l-preserved
loop-l-preserved g c =
    let d : Link = record { from = AtLeaf (record { 0 = 0 }) 0; to = AtLeaf (record { 0 = 0 }) 0; capacity = 0; kind = Truth } in
    let links = c.args.links.now in
    let link = slice_index_or links c.loop-l.l d in
    sending_more (map g.A.Firing.cell c.args.net.now.cells) c.args.outlets.now links c.loop-l.l link (at_place links c.loop-l.l d link c.loop-l-test.true refl)
    (g.D.Drains.channels c.args.drains.now) (g.D.Drains.channels c.loop-l.drains) (g.D.Drains.channels c.send_link.new.drains) c.args.writers.now c.loop-l.writers c.send_link.new.writers
    c.loop-l.invariant c.in_ok-send_link.ensures.only c.in_ok-send_link.ensures.sends c.in_ok-send_link.ensures.still_as_many
