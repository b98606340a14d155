use Rattle.std.proofs.Common.{length, map, refl, sym}
use Rattle.std.proofs.lemmas.List.{length-map}
use Rattle.std.specs.Prelude.{is_some, string_bytes}
use Rattle.rvc_io.specs.Feeds.{ReadFails}
use Rattle.trace_replay.specs.Between.{stand}
use Rattle.trace_replay.proofs.Heads.{err_after, fault_after}
use Rattle.trace_replay.proofs.Led.{names_too}
use Rattle.trace_replay.proofs.Looped.{ready_pulled}
use Rattle.trace_replay.specs.declared.bytes.TheConstants.{TRACE_FEED}
use Rattle.trace_replay.proofs.Pulling.{only_at, only_then, risen_after}
use Rattle.trace_replay.proofs.Told.{begins_at, okay_after}
use Rattle.trace_replay.proofs.events.read_trace.Goals as goal

pub read_events-requires-clause-ready : goal.read_events-requires-clause-ready
read_events-requires-clause-ready g c =
    ready_pulled (stand g.A.Firing.cell g.F.Feeds.feeds c.args.replay.now c.args.feeds.now) (stand g.A.Firing.cell g.F.Feeds.feeds c.args.replay.now c.read_head.new.feeds)
    c.args.replay.now.links.items (length c.args.replay.now.came.items) c.args.replay.now.grow refl refl refl refl c.read_head.ensures.elsewhere c.requires.ready

pub returns-in-Err-clause-judged : goal.returns-in-Err-clause-judged
returns-in-Err-clause-judged g c = λ t text inputs begins. (c.in-Err.ensures.judged t text begins.head begins.reached)

pub returns-clause-ended : goal.returns-clause-ended
returns-clause-ended g c =
    okay_after c.read_events.result _ _
    (λ end ended. λ t text inputs begins. ended t text inputs
    (begins_at t text inputs c.args.trace.now c.read_head.new.trace (stand g.A.Firing.cell g.F.Feeds.feeds c.args.replay.now c.args.feeds.now) (g.F.Feeds.feeds c.read_head.new.feeds) c.args.replay.now.grow
    c.args.first.now (map string_bytes c.args.names.now) _ (sym (length-map c.args.names.now string_bytes)) c.in-Ok.ensures.number
    c.read_head.ensures.elsewhere c.in-Ok.ensures.read begins))
    c.read_events.ensures.ended

pub returns-clause-judged : goal.returns-clause-judged
returns-clause-judged g c =
    err_after c.read_events.result _ _
    (λ fault judged. λ t text inputs begins. judged t text inputs
    (begins_at t text inputs c.args.trace.now c.read_head.new.trace (stand g.A.Firing.cell g.F.Feeds.feeds c.args.replay.now c.args.feeds.now) (g.F.Feeds.feeds c.read_head.new.feeds) c.args.replay.now.grow
    c.args.first.now (map string_bytes c.args.names.now) _ (sym (length-map c.args.names.now string_bytes)) c.in-Ok.ensures.number
    c.read_head.ensures.elsewhere c.in-Ok.ensures.read begins))
    c.read_events.ensures.judged

pub returns-clause-failed : goal.returns-clause-failed
returns-clause-failed g c =
    fault_after c.read_events.result (ReadFails g.F.Feeds.feeds c.read_head.new.feeds c.read_events.new.feeds) (ReadFails g.F.Feeds.feeds c.args.feeds.now c.read_events.new.feeds)
    (λ risen. risen_after (g.F.Feeds.feeds c.args.feeds.now).faults (g.F.Feeds.feeds c.read_head.new.feeds).faults (g.F.Feeds.feeds c.read_events.new.feeds).faults c.read_head.ensures.elsewhere.faults_stay risen)
    c.read_events.ensures.failed

pub returns-in-Err-clause-feed : goal.returns-in-Err-clause-feed
returns-in-Err-clause-feed g c = names_too c.args.replay.now.links.items (map is_some c.args.replay.now.readers.items) c.in-Err.fault c.in-Err.ensures.feed

pub returns-in-Err-clause-feeds_stay : goal.returns-in-Err-clause-feeds_stay
returns-in-Err-clause-feeds_stay g c = only_at TRACE_FEED (g.F.Feeds.feeds c.args.feeds.now) (g.F.Feeds.feeds c.read_head.new.feeds) c.read_head.ensures.elsewhere

pub returns-clause-feeds_stay : goal.returns-clause-feeds_stay
returns-clause-feeds_stay g c =
    only_then (g.F.Feeds.feeds c.args.feeds.now) (g.F.Feeds.feeds c.read_head.new.feeds) (g.F.Feeds.feeds c.read_events.new.feeds)
    (only_at TRACE_FEED (g.F.Feeds.feeds c.args.feeds.now) (g.F.Feeds.feeds c.read_head.new.feeds) c.read_head.ensures.elsewhere) c.read_events.ensures.feeds_stay
