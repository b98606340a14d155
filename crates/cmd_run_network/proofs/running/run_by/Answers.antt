use Rattle.std.proofs.Common.{◌∙◌, ap, length, map, string_bytes, subst}
use Rattle.std.proofs.lemmas.List.{length-map}
use Rattle.std.specs.Prelude.{Err}
use Rattle.rvc_words.specs.Words.{port_text}
use Rattle.net_model.specs.declared.wiring.Counts.{Counts}
use Rattle.cmd_ports.specs.Matching.{names_of}
use Rattle.cmd_run_network.specs.Arriving.{ArriveInEach}
use Rattle.cmd_run_network.specs.Network.{head_of, plan_of}
use Rattle.cmd_run_network.specs.Preparing.{Starts, TakesOver, WritesHead}
use Rattle.cmd_run_network.proofs.Begun.{channels_fit, feeds_fit, is_caused, wrote_faults, writes_all}
use Rattle.cmd_run_network.proofs.Kept.{all_open, opens_all, opens_then}
use Rattle.cmd_run_network.proofs.Finished.{arrives_run, leaves_run, leaves_unstarted, unstarted_channels, unstarted_feeds, unstarted_unwritten}
use Rattle.cmd_run_network.proofs.Opened.{channels_still, feeds_still}
use Rattle.cmd_run_network.proofs.running.run_by.Goals as goal

pub returns-in-Err-start-clause-leaves : goal.returns-in-Err-start-clause-leaves
returns-in-Err-start-clause-leaves g c net inputs is_of told =
    leaves_unstarted g.A.Firing.cell (map g.A.Firing.cell c.args.cells.items) c.args.flat.now c.args.job.now c.requires.can_run (g.P.Policy.kind c.args.policy) c.requires.kind
    c.in-Ok.prepared.runner c.in-Ok.prepared.head.items c.in-Ok.prepared.counts c.in-Ok.ensures.prepared net inputs is_of
    g.F.Feeds.feeds g.D.Drains.channels (string_bytes c.args.job.now.trace) c.args.feeds.now c.start.new.feeds c.args.drains.now c.start.new.drains c.in-Err-start.fault c.requires.channels_closed
    (subst (λ head. Starts g.F.Feeds.feeds g.D.Drains.channels c.args.flat.now (map port_text c.args.job.now.ports.items) (string_bytes c.args.job.now.trace) c.args.feeds.now c.start.new.feeds c.args.drains.now c.start.new.drains head (Err c.in-Err-start.fault))
    c.as_slice.ensures.value c.in-Err-start.ensures.starts) told

pub returns-in-Err-start-clause-other_feeds : goal.returns-in-Err-start-clause-other_feeds
returns-in-Err-start-clause-other_feeds g c =
    unstarted_feeds g.F.Feeds.feeds g.D.Drains.channels c.args.flat.now (map port_text c.args.job.now.ports.items) (string_bytes c.args.job.now.trace) c.as_slice.result.now
    c.args.feeds.now c.start.new.feeds c.args.drains.now c.start.new.drains c.in-Err-start.fault c.in-Err-start.ensures.starts

pub returns-in-Err-start-clause-other_channels : goal.returns-in-Err-start-clause-other_channels
returns-in-Err-start-clause-other_channels g c =
    unstarted_channels g.F.Feeds.feeds g.D.Drains.channels c.args.flat.now (map port_text c.args.job.now.ports.items) (string_bytes c.args.job.now.trace) c.as_slice.result.now
    c.args.feeds.now c.start.new.feeds c.args.drains.now c.start.new.drains c.in-Err-start.fault c.in-Err-start.ensures.starts

pub returns-in-Err-start-clause-unwritten : goal.returns-in-Err-start-clause-unwritten
returns-in-Err-start-clause-unwritten g c =
    unstarted_unwritten g.F.Feeds.feeds g.D.Drains.channels c.args.flat.now (map port_text c.args.job.now.ports.items) (string_bytes c.args.job.now.trace)
    (head_of c.args.flat.now (length c.args.cells.items) c.args.job.now.grow)
    c.args.feeds.now c.start.new.feeds c.args.drains.now c.start.new.drains c.in-Err-start.fault
    (subst (λ head. Starts g.F.Feeds.feeds g.D.Drains.channels c.args.flat.now (map port_text c.args.job.now.ports.items) (string_bytes c.args.job.now.trace) c.args.feeds.now c.start.new.feeds c.args.drains.now c.start.new.drains head (Err c.in-Err-start.fault))
    (c.as_slice.ensures.value ∙ c.in-Ok.ensures.prepared.head_is ∙ ap (λ n. head_of c.args.flat.now n c.args.job.now.grow) (length-map c.args.cells.items g.A.Firing.cell)) c.in-Err-start.ensures.starts)

pub run-end-requires-clause-feeds : goal.run-end-requires-clause-feeds
run-end-requires-clause-feeds g c κs within =
    feeds_fit g.A.Firing.cell (map g.A.Firing.cell c.args.cells.items) c.args.flat.now (map port_text c.args.job.now.ports.items) (plan_of c.args.job.now) (g.P.Policy.kind c.args.policy)
    c.in-Ok.prepared.runner c.in-Ok.prepared.head.items c.in-Ok.prepared.counts c.in-Ok.ensures.prepared
    (g.F.Feeds.feeds c.args.feeds.now) (g.F.Feeds.feeds c.start.new.feeds) c.in_default.ensures.starts.0

pub run-end-requires-clause-channels : goal.run-end-requires-clause-channels
run-end-requires-clause-channels g c κs within =
    let written : WritesHead (string_bytes c.args.job.now.trace) (names_of c.args.flat.now.outs.items) (map port_text c.args.job.now.ports.items) c.in-Ok.prepared.head.items
    (g.D.Drains.channels c.args.drains.now) (g.D.Drains.channels c.start.new.drains) =
    subst (λ head. WritesHead (string_bytes c.args.job.now.trace) (names_of c.args.flat.now.outs.items) (map port_text c.args.job.now.ports.items) head (g.D.Drains.channels c.args.drains.now) (g.D.Drains.channels c.start.new.drains)) c.as_slice.ensures.value c.in_default.ensures.starts.1 in
    channels_fit g.A.Firing.cell (map g.A.Firing.cell c.args.cells.items) c.args.flat.now (map port_text c.args.job.now.ports.items) (plan_of c.args.job.now) (g.P.Policy.kind c.args.policy)
    c.in-Ok.prepared.runner c.in-Ok.prepared.head.items c.in-Ok.prepared.counts c.in-Ok.ensures.prepared
    (string_bytes c.args.job.now.trace) (g.D.Drains.channels c.args.drains.now) (g.D.Drains.channels c.start.new.drains) written

pub returns-clause-leaves : goal.returns-clause-leaves
returns-clause-leaves g c net inputs is_of told =
    let written : WritesHead (string_bytes c.args.job.now.trace) (names_of c.args.flat.now.outs.items) (map port_text c.args.job.now.ports.items) c.in-Ok.prepared.head.items
    (g.D.Drains.channels c.args.drains.now) (g.D.Drains.channels c.start.new.drains) =
    subst (λ head. WritesHead (string_bytes c.args.job.now.trace) (names_of c.args.flat.now.outs.items) (map port_text c.args.job.now.ports.items) head (g.D.Drains.channels c.args.drains.now) (g.D.Drains.channels c.start.new.drains)) c.as_slice.ensures.value c.in_default.ensures.starts.1 in
    leaves_run g.A.Firing.cell (map g.A.Firing.cell c.args.cells.items) c.args.flat.now c.args.job.now c.requires.can_run (g.P.Policy.kind c.args.policy) c.requires.kind
    c.in-Ok.prepared.runner c.in-Ok.prepared.head.items c.in-Ok.prepared.counts c.in-Ok.ensures.prepared net inputs is_of
    g.F.Feeds.feeds g.D.Drains.channels (string_bytes c.args.job.now.trace) c.args.feeds.now c.start.new.feeds c.run-end.new.feeds c.args.drains.now c.start.new.drains c.run-end.new.drains
    c.run-end.new.self c.run-end.result c.take_over.new.into c.requires.channels_closed c.in_default.ensures.starts.0 written c.run-end.ensures.others c.run-end.ensures.leaves
    (subst (λ (counts : Counts). TakesOver counts c.in-Ok.prepared.counts c.take_over.new.into) c.counts.ensures c.take_over.ensures)
    c.runs_are_paced.ensures c.paced_lines_keep_the_budget.ensures.begun c.paced_lines_keep_the_budget.ensures.paced told

pub returns-clause-faults : goal.returns-clause-faults
returns-clause-faults g c =
    is_caused g.A.Firing.cell (map g.A.Firing.cell c.args.cells.items) c.args.flat.now (map port_text c.args.job.now.ports.items) (plan_of c.args.job.now) (g.P.Policy.kind c.args.policy)
    c.in-Ok.prepared.runner c.in-Ok.prepared.head.items c.in-Ok.prepared.counts c.in-Ok.ensures.prepared
    g.F.Feeds.feeds g.D.Drains.channels c.run-end.new.self c.args.feeds.now c.start.new.feeds c.run-end.new.feeds c.args.drains.now c.start.new.drains c.run-end.new.drains c.run-end.result
    c.in_default.ensures.starts.0.faults_stay
    (wrote_faults (string_bytes c.args.job.now.trace) (names_of c.args.flat.now.outs.items) (map port_text c.args.job.now.ports.items) c.as_slice.result.now (g.D.Drains.channels c.args.drains.now) (g.D.Drains.channels c.start.new.drains) c.in_default.ensures.starts.1)
    (c.run-end.ensures.faults c.in-Ok.ensures.prepared.begins.going)

pub returns-clause-opened : goal.returns-clause-opened
returns-clause-opened g c =
    let written : WritesHead (string_bytes c.args.job.now.trace) (names_of c.args.flat.now.outs.items) (map port_text c.args.job.now.ports.items) c.in-Ok.prepared.head.items
    (g.D.Drains.channels c.args.drains.now) (g.D.Drains.channels c.start.new.drains) =
    subst (λ head. WritesHead (string_bytes c.args.job.now.trace) (names_of c.args.flat.now.outs.items) (map port_text c.args.job.now.ports.items) head (g.D.Drains.channels c.args.drains.now) (g.D.Drains.channels c.start.new.drains)) c.as_slice.ensures.value c.in_default.ensures.starts.1 in
    all_open c.args.flat.now.links.items (names_of c.args.flat.now.ins.items) (names_of c.args.flat.now.outs.items) (map port_text c.args.job.now.ports.items) (string_bytes c.args.job.now.trace)
    c.in-Ok.prepared.head.items (g.F.Feeds.feeds c.args.feeds.now) (g.F.Feeds.feeds c.start.new.feeds) (g.F.Feeds.feeds c.run-end.new.feeds) (g.D.Drains.channels c.args.drains.now)
    (g.D.Drains.channels c.start.new.drains) (g.D.Drains.channels c.run-end.new.drains) c.in_default.ensures.starts.0 c.run-end.ensures.same_feeds written c.run-end.ensures.others.same_open

pub returns-clause-other_feeds : goal.returns-clause-other_feeds
returns-clause-other_feeds g c =
    opens_then c.args.flat.now.links.items (names_of c.args.flat.now.ins.items) (map port_text c.args.job.now.ports.items) (g.F.Feeds.feeds c.args.feeds.now) (g.F.Feeds.feeds c.start.new.feeds) (g.F.Feeds.feeds c.run-end.new.feeds)
    (opens_all c.args.flat.now.links.items (names_of c.args.flat.now.ins.items) (map port_text c.args.job.now.ports.items) (g.F.Feeds.feeds c.args.feeds.now) (g.F.Feeds.feeds c.start.new.feeds) c.in_default.ensures.starts.0) c.run-end.ensures.same_feeds

pub returns-clause-other_channels : goal.returns-clause-other_channels
returns-clause-other_channels g c =
    let written : WritesHead (string_bytes c.args.job.now.trace) (names_of c.args.flat.now.outs.items) (map port_text c.args.job.now.ports.items) c.in-Ok.prepared.head.items
    (g.D.Drains.channels c.args.drains.now) (g.D.Drains.channels c.start.new.drains) =
    subst (λ head. WritesHead (string_bytes c.args.job.now.trace) (names_of c.args.flat.now.outs.items) (map port_text c.args.job.now.ports.items) head (g.D.Drains.channels c.args.drains.now) (g.D.Drains.channels c.start.new.drains)) c.as_slice.ensures.value c.in_default.ensures.starts.1 in
    writes_all g.A.Firing.cell (map g.A.Firing.cell c.args.cells.items) c.args.flat.now (map port_text c.args.job.now.ports.items) (plan_of c.args.job.now) (g.P.Policy.kind c.args.policy)
    c.in-Ok.prepared.runner c.in-Ok.prepared.head.items c.in-Ok.prepared.counts c.in-Ok.ensures.prepared
    (string_bytes c.args.job.now.trace) (g.D.Drains.channels c.args.drains.now) (g.D.Drains.channels c.start.new.drains) (g.D.Drains.channels c.run-end.new.drains) written c.run-end.ensures.others

pub returns-clause-arrive : goal.returns-clause-arrive
returns-clause-arrive g c =
    let arrived = g.G.Gate.arrived c.args.gate.now in
    subst (λ n. ArriveInEach arrived c.args.job.now n c.take_over.new.into) (length-map c.args.cells.items g.A.Firing.cell)
    (arrives_run g.A.Firing.cell (map g.A.Firing.cell c.args.cells.items) c.args.flat.now c.args.job.now (g.P.Policy.kind c.args.policy) c.requires.kind
    c.in-Ok.prepared.runner c.in-Ok.prepared.head.items c.in-Ok.prepared.counts c.in-Ok.ensures.prepared arrived c.run-end.new.self c.take_over.new.into
    (c.run-end.ensures.arrive c.in-Ok.ensures.prepared.begins.going)
    (subst (λ (counts : Counts). TakesOver counts c.in-Ok.prepared.counts c.take_over.new.into) c.counts.ensures c.take_over.ensures))

pub returns-clause-by_name : goal.returns-clause-by_name
returns-clause-by_name g c = (
  feeds_still g.F.Feeds.feeds g.F.Feeds.past c.args.feeds.now c.start.new.feeds c.run-end.new.feeds _ c.in_default.ensures.by_name.0 c.run-end.ensures.same_feeds.same_open,
  channels_still g.D.Drains.channels g.D.Drains.past c.args.drains.now c.start.new.drains c.run-end.new.drains _ c.in_default.ensures.by_name.1 c.run-end.ensures.others.same_open,
)
