use Rattle.std.proofs.Common.{map, subst}
use Rattle.std.specs.Arc.{arc_value}
use Rattle.actor_cell.specs.Core.{seen}
use Rattle.net_cells.specs.Cells.{AreCellsOf}
use Rattle.net_cells.specs.Runnable.{CanRunWith}
use Rattle.cmd_run.proofs.Cells.{can_run_all}
use Rattle.cmd_replay.proofs.Sourced.{source_judges}
use Rattle.cmd_replay.proofs.image.replay_cells.Goals as goal

pub replay_network-requires-clause-can_run : goal.replay_network-requires-clause-can_run
replay_network-requires-clause-can_run g c =
    let image = c.args.image.now in
    let job = c.args.job.now in
    let cells = map seen c.in-Ok.cells.items in
    let are : AreCellsOf (map arc_value image.codes.items) image.flat.links.items job.burst job.grow cells =
    subst (λ links. AreCellsOf (map arc_value image.codes.items) links job.burst job.grow cells) c.as_slice-2.ensures.value
    (subst (λ codes. AreCellsOf (map arc_value codes) c.as_slice-2.result.now job.burst job.grow cells) c.as_slice.ensures.value c.in-Ok.ensures.cells) in
    let can : CanRunWith (map arc_value image.codes.items) image.flat.links.items job.burst job.grow cells =
    subst (λ links. CanRunWith (map arc_value image.codes.items) links job.burst job.grow cells) c.as_slice-2.ensures.value
    (subst (λ codes. CanRunWith (map arc_value codes) c.as_slice-2.result.now job.burst job.grow cells) c.as_slice.ensures.value c.in-Ok.ensures.can_run) in
    can_run_all image c.requires.source.actors c.requires.source.net c.requires.source.has c.requires.source.is job c.requires.within cells are c.cells_run_as_sources.ensures.wired can

pub returns : goal.returns
returns g c =
    let image = c.args.image.now in
    let job = c.args.job.now in
    let cells = map seen c.in-Ok.cells.items in
    let are : AreCellsOf (map arc_value image.codes.items) image.flat.links.items job.burst job.grow cells =
    subst (λ links. AreCellsOf (map arc_value image.codes.items) links job.burst job.grow cells) c.as_slice-2.ensures.value
    (subst (λ codes. AreCellsOf (map arc_value codes) c.as_slice-2.result.now job.burst job.grow cells) c.as_slice.ensures.value c.in-Ok.ensures.cells) in
    record {
      judges = λ actors net inputs text has is given told.
          source_judges image actors net has is c.cells_run_as_sources.ensures.lawful c.no_trace_is_told_to_be_none.ensures job c.requires.within cells are
          (g.F.Feeds.feeds c.args.feeds.now) c.replay_network.result inputs text c.replay_network.ensures.judges given told;
      leaves = c.replay_network.ensures.leaves;
      by_name = c.replay_network.ensures.by_name;
    }
