use Rattle.std.proofs.Common.{map, sym, subst}
use Rattle.std.specs.Prelude.{is_some, string_bytes}
use Rattle.trace_replay.specs.Events.{IsEnded}
use Rattle.trace_replay.specs.Reading.{NamesRead}
use Rattle.trace_replay.proofs.Opened.{begins, can_work, fault_named, have_ports, ready_to_go}
use Rattle.trace_replay.proofs.Told.{refused_is, replayed_is}
use Rattle.trace_replay.proofs.replaying.replay.Goals as goal

pub new-requires-2-clause-can_work : goal.new-requires-2-clause-can_work
new-requires-2-clause-can_work g c =
    can_work (map g.A.Firing.cell c.args.cells.items) c.args.wiring c.args.grow (map string_bytes c.args.names.now) (g.F.Feeds.feeds c.args.feeds.now) c.ready_networks_can_work.ensures c.requires.can

pub new-requires-2-clause-inputs : goal.new-requires-2-clause-inputs
new-requires-2-clause-inputs g c =
    have_ports (map g.A.Firing.cell c.args.cells.items) c.args.wiring c.args.grow (map string_bytes c.args.names.now) (g.F.Feeds.feeds c.args.feeds.now) c.requires.can

pub read_trace-requires-clause-ready : goal.read_trace-requires-clause-ready
read_trace-requires-clause-ready g c =
    ready_to_go g.A.Firing.cell c.args.cells.items c.args.wiring c.args.grow (map string_bytes c.args.names.now) (g.F.Feeds.feeds c.args.feeds.now) c.in-Ok-new.replay c.requires.can
    (can_work (map g.A.Firing.cell c.args.cells.items) c.args.wiring c.args.grow (map string_bytes c.args.names.now) (g.F.Feeds.feeds c.args.feeds.now) c.ready_networks_can_work.ensures c.requires.can)
    c.in-Ok-new.ensures

pub returns-in-Err-clause-refused : goal.returns-in-Err-clause-refused
returns-in-Err-clause-refused g c = λ t text inputs is.
    let start = begins g.A.Firing.cell c.args.cells.items c.args.wiring c.args.grow (map string_bytes c.args.names.now) (g.F.Feeds.feeds c.args.feeds.now) c.in-Ok-new.replay c.requires.can
    (can_work (map g.A.Firing.cell c.args.cells.items) c.args.wiring c.args.grow (map string_bytes c.args.names.now) (g.F.Feeds.feeds c.args.feeds.now) c.ready_networks_can_work.ensures c.requires.can)
    c.in-Ok-new.ensures t text inputs is c.in-Ok.trace c.first_line-first.result c.in-Ok.ensures.bytes c.in-Ok.ensures.passed c.in-Ok.ensures.count c.in-Ok.ensures.grow c.first_line-first.ensures in
    refused_is t text c.in-Err.fault c.no_trace_is_told_to_be_none.ensures start.wired start.lawful (c.in-Err.ensures.judged t text inputs start)

pub returns-clause-replayed : goal.returns-clause-replayed
returns-clause-replayed g c = λ t text inputs is.
    let start = begins g.A.Firing.cell c.args.cells.items c.args.wiring c.args.grow (map string_bytes c.args.names.now) (g.F.Feeds.feeds c.args.feeds.now) c.in-Ok-new.replay c.requires.can
    (can_work (map g.A.Firing.cell c.args.cells.items) c.args.wiring c.args.grow (map string_bytes c.args.names.now) (g.F.Feeds.feeds c.args.feeds.now) c.ready_networks_can_work.ensures c.requires.can)
    c.in-Ok-new.ensures t text inputs is c.in-Ok.trace c.first_line-first.result c.in-Ok.ensures.bytes c.in-Ok.ensures.passed c.in-Ok.ensures.count c.in-Ok.ensures.grow c.first_line-first.ensures in
    replayed_is t text inputs c.in-Ok-read_trace.end c.into_numbers.result c.traces_are_runs.ensures.lines c.text_tells_lines.ensures start.fits
    (subst (IsEnded t text inputs c.in-Ok-read_trace.end) (sym c.into_numbers.ensures) (c.in-Ok-read_trace.ensures.ended t text inputs start))

pub returns-in-Err-clause-feed : goal.returns-in-Err-clause-feed
returns-in-Err-clause-feed g c =
    fault_named c.args.wiring.ins.items c.args.wiring.open_ins.items c.args.wiring.links.items c.in-Ok-new.replay.readers.items c.in-Err.fault c.in-Ok-new.ensures.readers
    (subst (λ links. NamesRead links (map is_some c.in-Ok-new.replay.readers.items) c.in-Err.fault) c.in-Ok-new.ensures.links_are c.in-Err.ensures.feed)
