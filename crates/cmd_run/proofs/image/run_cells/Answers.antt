use Rattle.std.proofs.Common.{◌≡◌, ◌∙◌, length, map, string_bytes, subst, sym}
use Rattle.std.proofs.lemmas.List.{length-map}
use Rattle.std.specs.Arc.{arc_value}
use Rattle.std.specs.Prelude.{IfOk}
use Rattle.actor_cell.specs.Core.{seen}
use Rattle.net_cells.specs.Cells.{AreCellsOf}
use Rattle.net_cells.specs.Runnable.{CanRunWith}
use Rattle.cmd_run_network.specs.Answering.{IsUnread, IsUnwritten, OnUnwritten}
use Rattle.cmd_run_network.specs.Arriving.{ArriveInEach}
use Rattle.cmd_run_network.specs.Network.{head_of, in_names, out_names, words_of}
use Rattle.cmd_run.proofs.Cells.{can_run_all}
use Rattle.cmd_run.proofs.Leaving.{source_leaves, when_unstarted, when_unread}
use Rattle.cmd_run.proofs.image.run_cells.Goals as goal

pub run_network-requires-clause-can_run : goal.run_network-requires-clause-can_run
run_network-requires-clause-can_run g c κs within =
    let image = c.args.image.now in
    let job = c.args.job.now in
    let cells = map seen c.in-Ok.cells.items in
    let are : AreCellsOf (map arc_value image.codes.items) image.flat.links.items job.burst job.grow cells =
    subst (λ links. AreCellsOf (map arc_value image.codes.items) links job.burst job.grow cells) c.as_slice-2.ensures.value
    (subst (λ codes. AreCellsOf (map arc_value codes) c.as_slice-2.result.now job.burst job.grow cells) c.as_slice.ensures.value c.in-Ok.ensures.cells) in
    let can : CanRunWith (map arc_value image.codes.items) image.flat.links.items job.burst job.grow cells =
    subst (λ links. CanRunWith (map arc_value image.codes.items) links job.burst job.grow cells) c.as_slice-2.ensures.value
    (subst (λ codes. CanRunWith (map arc_value codes) c.as_slice-2.result.now job.burst job.grow cells) c.as_slice.ensures.value c.in-Ok.ensures.can_run) in
    can_run_all image c.requires.source.actors c.requires.source.net c.requires.source.has c.requires.source.is job c.requires.within cells are c.cells_run_as_sources.ensures.wired can

pub returns-clause-ran : goal.returns-clause-ran
returns-clause-ran g c =
    let image = c.args.image.now in
    let job = c.args.job.now in
    let cells = map seen c.in-Ok.cells.items in
    let are : AreCellsOf (map arc_value image.codes.items) image.flat.links.items job.burst job.grow cells =
    subst (λ links. AreCellsOf (map arc_value image.codes.items) links job.burst job.grow cells) c.as_slice-2.ensures.value
    (subst (λ codes. AreCellsOf (map arc_value codes) c.as_slice-2.result.now job.burst job.grow cells) c.as_slice.ensures.value c.in-Ok.ensures.cells) in
    let many : length c.in-Ok.cells.items ≡ length image.codes.items = sym (length-map c.in-Ok.cells.items seen) ∙ are.one_each ∙ length-map image.codes.items arc_value in
    record {
      leaves = λ actors net inputs has is given. source_leaves image actors net has is job c.requires.within cells are
          (g.F.Feeds.feeds c.args.feeds.now) (g.F.Feeds.feeds c.run_network.new.feeds) (g.D.Drains.channels c.run_network.new.drains) c.run_network.result inputs c.run_network.ensures.leaves given;
      within = c.run_network.ensures.within;
      permitted = c.run_network.ensures.permitted;
      opened = c.run_network.ensures.opened;
      refused = c.run_network.ensures.refused;
      unstarted = when_unstarted g.F.Feeds.feeds g.D.Drains.channels c.args.feeds.now c.run_network.new.feeds c.args.drains.now c.run_network.new.drains c.run_network.result c.run_network.ensures.unstarted;
      unread = when_unread g.D.Drains.channels c.args.drains.now c.run_network.new.drains c.run_network.result
          (IsUnread image.flat.links.items (in_names image.flat) (words_of job) (g.F.Feeds.feeds c.args.feeds.now) (g.F.Feeds.feeds c.run_network.new.feeds)) c.run_network.ensures.unread;
      unwritten = subst (λ n. OnUnwritten c.run_network.result (IsUnwritten image.flat.links.items (in_names image.flat) (out_names image.flat) (words_of job) (string_bytes job.trace) (head_of image.flat n job.grow)
          (g.F.Feeds.feeds c.args.feeds.now) (g.F.Feeds.feeds c.run_network.new.feeds) (g.D.Drains.channels c.args.drains.now) (g.D.Drains.channels c.run_network.new.drains))) many c.run_network.ensures.unwritten;
      faults = c.run_network.ensures.faults;
      report = c.run_network.ensures.report;
      only_feeds = c.run_network.ensures.other_feeds;
      others = c.run_network.ensures.other_channels;
    }

pub returns-clause-asked : goal.returns-clause-asked
returns-clause-asked g c =
    let image = c.args.image.now in
    let job = c.args.job.now in
    let cells = map seen c.in-Ok.cells.items in
    let are : AreCellsOf (map arc_value image.codes.items) image.flat.links.items job.burst job.grow cells =
    subst (λ links. AreCellsOf (map arc_value image.codes.items) links job.burst job.grow cells) c.as_slice-2.ensures.value
    (subst (λ codes. AreCellsOf (map arc_value codes) c.as_slice-2.result.now job.burst job.grow cells) c.as_slice.ensures.value c.in-Ok.ensures.cells) in
    let many : length c.in-Ok.cells.items ≡ length image.codes.items = sym (length-map c.in-Ok.cells.items seen) ∙ are.one_each ∙ length-map image.codes.items arc_value in
    record {
      by_name = c.run_network.ensures.by_name;
      arrive = subst (λ n. IfOk c.run_network.result (λ outcome. ArriveInEach (g.G.Gate.arrived c.args.gate.now) job n outcome.counts)) many c.run_network.ensures.arrive;
    }
