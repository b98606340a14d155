use Rattle.std.proofs.Common.{map}
use Rattle.std.proofs.lemmas.Option.{slice_get-get_or}
use Rattle.net_state.proofs.Counting.{counting_more, counted_all}
use Rattle.net_state.proofs.waiting.count_waiting.Goals as goal

pub waiting_before-requires : goal.waiting_before-requires
waiting_before-requires g c = c.requires.readers c.loop-l.l _ (slice_get-get_or c.args.links.now c.loop-l.l _ c.loop-l-test.true)

pub loop-l-preserved : goal.loop-l-preserved
loop-l-preserved g c = counting_more c.loop-l.l _ (map g.A.Firing.cell c.args.cells.now) c.args.links.now c.loop-l.waited _ c.loop-l.invariant
    (slice_get-get_or c.args.links.now c.loop-l.l _ c.loop-l-test.true) c.waiting_before.ensures

pub returns : goal.returns
returns g c = counted_all c.loop-l.l (map g.A.Firing.cell c.args.cells.now) c.args.links.now c.loop-l.waited c.loop-l.invariant c.loop-l-test.false
