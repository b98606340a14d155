use Rattle.std.proofs.Common.{◌⊎◌, inl, map, string_bytes, subst, sym}
use Rattle.rvc_words.specs.Words.{port_text}
use Rattle.cmd_ports.specs.Matching.{names_of}
use Rattle.cmd_ports.specs.Opening.{FeedsAreOpened, HoldsBefore, replay_feeds}
use Rattle.trace_replay.specs.Replaying.{CanReplay, IsReplayOf}
use Rattle.cmd_run_network.specs.Names.{FeedsOpened}
use Rattle.cmd_run_network.proofs.Opened.{feeds_before, feeds_now, feeds_still}
use Rattle.cmd_replay.specs.Steps.{trial_of}
use Rattle.cmd_replay.proofs.ByName.{all_by_name, openings_so}
use Rattle.cmd_replay.proofs.Judged.{can_replay, fault_leaves, is_replay_of, run_leaves}
use Rattle.cmd_replay.proofs.replaying.replay_network.Goals as goal

pub replay-requires : goal.replay-requires
replay-requires g c =
    let old = g.F.Feeds.feeds c.args.feeds.now in
    let mid = g.F.Feeds.feeds c.open_replay_feeds.new.feeds in
    let flat = c.args.flat.now in
    let job = c.args.job.now in
    let opened : FeedsAreOpened (replay_feeds (string_bytes job.trace) flat.links.items (names_of flat.ins.items) (map port_text job.ports.items)) old mid =
    subst (λ t. FeedsAreOpened (replay_feeds t flat.links.items (names_of flat.ins.items) (map port_text job.ports.items)) old mid) c.as_str.ensures.value
    (subst (λ ws. FeedsAreOpened (replay_feeds c.as_str.result.now flat.links.items (names_of flat.ins.items) (map port_text ws)) old mid) c.as_slice.ensures.value
    (subst (λ ls. FeedsAreOpened (replay_feeds c.as_str.result.now ls (names_of flat.ins.items) (map port_text c.as_slice.result.now)) old mid) c.as_slice-2.ensures.value
    (subst (λ ps. FeedsAreOpened (replay_feeds c.as_str.result.now c.as_slice-2.result.now (names_of ps) (map port_text c.as_slice.result.now)) old mid) c.as_slice-3.ensures.value c.in_default.ensures.opened))) in
    record {
      can = subst (λ names. CanReplay (map g.A.Firing.cell c.args.cells.items) c.in-Ok.prepared.wiring job.grow (map string_bytes names) mid) (sym c.as_slice-4.ensures.value)
          (can_replay (map g.A.Firing.cell c.args.cells.items) flat job c.requires.can_run c.in-Ok.prepared.wiring (map string_bytes c.in-Ok.prepared.names.items) c.in-Ok.ensures.prepared old mid opened);
    }

pub returns-in-Ok-replay-clause-judges : goal.returns-in-Ok-replay-clause-judges
returns-in-Ok-replay-clause-judges g c net inputs text is_of given told =
    let old = g.F.Feeds.feeds c.args.feeds.now in
    let mid = g.F.Feeds.feeds c.open_replay_feeds.new.feeds in
    let flat = c.args.flat.now in
    let job = c.args.job.now in
    let opened : FeedsAreOpened (replay_feeds (string_bytes job.trace) flat.links.items (names_of flat.ins.items) (map port_text job.ports.items)) old mid =
    subst (λ t. FeedsAreOpened (replay_feeds t flat.links.items (names_of flat.ins.items) (map port_text job.ports.items)) old mid) c.as_str.ensures.value
    (subst (λ ws. FeedsAreOpened (replay_feeds c.as_str.result.now flat.links.items (names_of flat.ins.items) (map port_text ws)) old mid) c.as_slice.ensures.value
    (subst (λ ls. FeedsAreOpened (replay_feeds c.as_str.result.now ls (names_of flat.ins.items) (map port_text c.as_slice.result.now)) old mid) c.as_slice-2.ensures.value
    (subst (λ ps. FeedsAreOpened (replay_feeds c.as_str.result.now c.as_slice-2.result.now (names_of ps) (map port_text c.as_slice.result.now)) old mid) c.as_slice-3.ensures.value c.in_default.ensures.opened))) in
    c.in-Ok-replay.ensures.replayed (trial_of net (map g.A.Firing.cell c.args.cells.items) inputs job.grow) text inputs
    (subst (λ names. IsReplayOf (trial_of net (map g.A.Firing.cell c.args.cells.items) inputs job.grow) text inputs (map g.A.Firing.cell c.args.cells.items) c.in-Ok.prepared.wiring job.grow (map string_bytes names) mid)
    (sym c.as_slice-4.ensures.value) (is_replay_of (map g.A.Firing.cell c.args.cells.items) flat job c.requires.can_run c.in-Ok.prepared.wiring (map string_bytes c.in-Ok.prepared.names.items) c.in-Ok.ensures.prepared old mid opened net inputs text is_of given told))

pub returns-in-Ok-replay-clause-leaves : goal.returns-in-Ok-replay-clause-leaves
returns-in-Ok-replay-clause-leaves g c =
    let old = g.F.Feeds.feeds c.args.feeds.now in
    let mid = g.F.Feeds.feeds c.open_replay_feeds.new.feeds in
    let flat = c.args.flat.now in
    let job = c.args.job.now in
    let opened : FeedsAreOpened (replay_feeds (string_bytes job.trace) flat.links.items (names_of flat.ins.items) (map port_text job.ports.items)) old mid =
    subst (λ t. FeedsAreOpened (replay_feeds t flat.links.items (names_of flat.ins.items) (map port_text job.ports.items)) old mid) c.as_str.ensures.value
    (subst (λ ws. FeedsAreOpened (replay_feeds c.as_str.result.now flat.links.items (names_of flat.ins.items) (map port_text ws)) old mid) c.as_slice.ensures.value
    (subst (λ ls. FeedsAreOpened (replay_feeds c.as_str.result.now ls (names_of flat.ins.items) (map port_text c.as_slice.result.now)) old mid) c.as_slice-2.ensures.value
    (subst (λ ps. FeedsAreOpened (replay_feeds c.as_str.result.now c.as_slice-2.result.now (names_of ps) (map port_text c.as_slice.result.now)) old mid) c.as_slice-3.ensures.value c.in_default.ensures.opened))) in
    run_leaves (map g.A.Firing.cell c.args.cells.items) flat job c.requires.can_run c.in-Ok.prepared.wiring (map string_bytes c.in-Ok.prepared.names.items) c.in-Ok.ensures.prepared old mid opened (g.F.Feeds.feeds c.replay.new.feeds)
    c.in-Ok-replay.replayed c.in-Ok.ensures.permitted c.in-Ok-replay.ensures.feeds_stay

pub returns-clause-judges : goal.returns-clause-judges
returns-clause-judges g c net inputs text is_of given told =
    let old = g.F.Feeds.feeds c.args.feeds.now in
    let mid = g.F.Feeds.feeds c.open_replay_feeds.new.feeds in
    let flat = c.args.flat.now in
    let job = c.args.job.now in
    let opened : FeedsAreOpened (replay_feeds (string_bytes job.trace) flat.links.items (names_of flat.ins.items) (map port_text job.ports.items)) old mid =
    subst (λ t. FeedsAreOpened (replay_feeds t flat.links.items (names_of flat.ins.items) (map port_text job.ports.items)) old mid) c.as_str.ensures.value
    (subst (λ ws. FeedsAreOpened (replay_feeds c.as_str.result.now flat.links.items (names_of flat.ins.items) (map port_text ws)) old mid) c.as_slice.ensures.value
    (subst (λ ls. FeedsAreOpened (replay_feeds c.as_str.result.now ls (names_of flat.ins.items) (map port_text c.as_slice.result.now)) old mid) c.as_slice-2.ensures.value
    (subst (λ ps. FeedsAreOpened (replay_feeds c.as_str.result.now c.as_slice-2.result.now (names_of ps) (map port_text c.as_slice.result.now)) old mid) c.as_slice-3.ensures.value c.in_default.ensures.opened))) in
    c.in-Err-replay.ensures.refused (trial_of net (map g.A.Firing.cell c.args.cells.items) inputs job.grow) text inputs
    (subst (λ names. IsReplayOf (trial_of net (map g.A.Firing.cell c.args.cells.items) inputs job.grow) text inputs (map g.A.Firing.cell c.args.cells.items) c.in-Ok.prepared.wiring job.grow (map string_bytes names) mid)
    (sym c.as_slice-4.ensures.value) (is_replay_of (map g.A.Firing.cell c.args.cells.items) flat job c.requires.can_run c.in-Ok.prepared.wiring (map string_bytes c.in-Ok.prepared.names.items) c.in-Ok.ensures.prepared old mid opened net inputs text is_of given told))

pub returns-clause-leaves : goal.returns-clause-leaves
returns-clause-leaves g c =
    let old = g.F.Feeds.feeds c.args.feeds.now in
    let mid = g.F.Feeds.feeds c.open_replay_feeds.new.feeds in
    let flat = c.args.flat.now in
    let job = c.args.job.now in
    let opened : FeedsAreOpened (replay_feeds (string_bytes job.trace) flat.links.items (names_of flat.ins.items) (map port_text job.ports.items)) old mid =
    subst (λ t. FeedsAreOpened (replay_feeds t flat.links.items (names_of flat.ins.items) (map port_text job.ports.items)) old mid) c.as_str.ensures.value
    (subst (λ ws. FeedsAreOpened (replay_feeds c.as_str.result.now flat.links.items (names_of flat.ins.items) (map port_text ws)) old mid) c.as_slice.ensures.value
    (subst (λ ls. FeedsAreOpened (replay_feeds c.as_str.result.now ls (names_of flat.ins.items) (map port_text c.as_slice.result.now)) old mid) c.as_slice-2.ensures.value
    (subst (λ ps. FeedsAreOpened (replay_feeds c.as_str.result.now c.as_slice-2.result.now (names_of ps) (map port_text c.as_slice.result.now)) old mid) c.as_slice-3.ensures.value c.in_default.ensures.opened))) in
    fault_leaves (map g.A.Firing.cell c.args.cells.items) flat job c.requires.can_run c.in-Ok.prepared.wiring (map string_bytes c.in-Ok.prepared.names.items) c.in-Ok.ensures.prepared old mid opened (g.F.Feeds.feeds c.replay.new.feeds)
    c.in-Err-replay.fault c.in-Ok.ensures.permitted c.in-Err-replay.ensures.feeds_stay c.in-Err-replay.ensures.failed c.in-Err-replay.ensures.feed

pub returns-in-Ok-replay-clause-by_name : goal.returns-in-Ok-replay-clause-by_name
returns-in-Ok-replay-clause-by_name g c =
    openings_so (FeedsOpened g.F.Feeds.feeds g.F.Feeds.past c.args.feeds.now c.replay.new.feeds) c.as_str.result.now (string_bytes c.args.job.now.trace) c.as_slice-2.result.now c.args.flat.now.links.items
    c.as_slice-3.result.now c.args.flat.now.ins.items c.as_slice.result.now c.args.job.now.ports.items c.as_str.ensures.value c.as_slice-2.ensures.value c.as_slice-3.ensures.value c.as_slice.ensures.value
    (feeds_still g.F.Feeds.feeds g.F.Feeds.past c.args.feeds.now c.open_replay_feeds.new.feeds c.replay.new.feeds _ (feeds_now g.F.Feeds.feeds g.F.Feeds.past c.args.feeds.now c.open_replay_feeds.new.feeds _ c.in_default.ensures.noted) c.in-Ok-replay.ensures.feeds_stay.same_open)

pub returns-in-Err-open_replay_feeds-clause-by_name : goal.returns-in-Err-open_replay_feeds-clause-by_name
returns-in-Err-open_replay_feeds-clause-by_name g c =
    openings_so (λ all. HoldsBefore all c.in-Err-open_replay_feeds.feed (FeedsOpened g.F.Feeds.feeds g.F.Feeds.past c.args.feeds.now c.open_replay_feeds.new.feeds) ⊎ FeedsOpened g.F.Feeds.feeds g.F.Feeds.past c.args.feeds.now c.open_replay_feeds.new.feeds all)
    c.as_str.result.now (string_bytes c.args.job.now.trace) c.as_slice-2.result.now c.args.flat.now.links.items
    c.as_slice-3.result.now c.args.flat.now.ins.items c.as_slice.result.now c.args.job.now.ports.items c.as_str.ensures.value c.as_slice-2.ensures.value c.as_slice-3.ensures.value c.as_slice.ensures.value
    (inl (feeds_before g.F.Feeds.feeds g.F.Feeds.past c.args.feeds.now c.open_replay_feeds.new.feeds _ c.in-Err-open_replay_feeds.feed c.in-Err-open_replay_feeds.ensures.noted_before))

pub returns-clause-by_name : goal.returns-clause-by_name
returns-clause-by_name g c =
    all_by_name c.args.flat.now c.args.job.now (FeedsOpened g.F.Feeds.feeds g.F.Feeds.past c.args.feeds.now c.replay.new.feeds) c.in-Err-replay.fault
    (openings_so (FeedsOpened g.F.Feeds.feeds g.F.Feeds.past c.args.feeds.now c.replay.new.feeds) c.as_str.result.now (string_bytes c.args.job.now.trace) c.as_slice-2.result.now c.args.flat.now.links.items
    c.as_slice-3.result.now c.args.flat.now.ins.items c.as_slice.result.now c.args.job.now.ports.items c.as_str.ensures.value c.as_slice-2.ensures.value c.as_slice-3.ensures.value c.as_slice.ensures.value
    (feeds_still g.F.Feeds.feeds g.F.Feeds.past c.args.feeds.now c.open_replay_feeds.new.feeds c.replay.new.feeds _ (feeds_now g.F.Feeds.feeds g.F.Feeds.past c.args.feeds.now c.open_replay_feeds.new.feeds _ c.in_default.ensures.noted) c.in-Err-replay.ensures.feeds_stay.same_open))
