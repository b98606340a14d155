use Rattle.std.proofs.Common.{map, arith}
use Rattle.std.proofs.lemmas.Option.{slice_get-get_or}
use Rattle.net_state.proofs.Kept.{any_link}
use Rattle.net_state.proofs.Lowest.{below_all, below_more, lowest_at}
use Rattle.net_state.proofs.lacking.lowest_lacking.Goals as goal

pub loop-l-init : goal.loop-l-init
loop-l-init g c = λ m low. absurd (omega (arith, low))

pub overflow_sub-room : goal.overflow_sub-room
overflow_sub-room g c = (c.requires.working.fits c.loop-l.l _ (slice_get-get_or c.args.links.now c.loop-l.l any_link c.loop-l-test.true)).counted

pub lacks_on-requires-clause-writer : goal.lacks_on-requires-clause-writer
lacks_on-requires-clause-writer g c = (c.requires.working.fits c.loop-l.l _ (slice_get-get_or c.args.links.now c.loop-l.l _ c.loop-l-test.true)).writer

pub returns-then-lacks_on-clause-some : goal.returns-then-lacks_on-clause-some
returns-then-lacks_on-clause-some g c =
    lowest_at (map g.A.Firing.cell c.args.cells.now) c.args.links.now c.args.capacities.now c.args.waited.now c.args.inst.0 c.args.action.0 c.loop-l.l _ c.loop-l.invariant
    (slice_get-get_or c.args.links.now c.loop-l.l _ c.loop-l-test.true) (c.lacks_on.ensures.yes c.if-lacks_on.true)

pub loop-l-smaller : goal.loop-l-smaller
loop-l-smaller g c = omega (arith, c.loop-l-test.true)

pub loop-l-preserved : goal.loop-l-preserved
loop-l-preserved g c =
    below_more (map g.A.Firing.cell c.args.cells.now) c.args.links.now c.args.capacities.now c.args.waited.now c.args.inst.0 c.args.action.0 c.loop-l.l _ c.loop-l.invariant
    (slice_get-get_or c.args.links.now c.loop-l.l _ c.loop-l-test.true) (c.lacks_on.ensures.no c.if-lacks_on.false)

pub returns-clause-none : goal.returns-clause-none
returns-clause-none g c =
    below_all (map g.A.Firing.cell c.args.cells.now) c.args.links.now c.args.capacities.now c.args.waited.now c.args.inst.0 c.args.action.0 c.loop-l.l c.loop-l.invariant
    (omega (arith, c.loop-l-test.false))
