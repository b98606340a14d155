use Rattle.std.proofs.Common.{◌∙◌, inr, length, map, refl, sym, ap, subst, arith}
use Rattle.std.specs.Prelude.{is_some}
use Rattle.rvc_io.specs.Feeds.{ReadFails}
use Rattle.port_files.specs.Coming.{coming_on}
use Rattle.trace_text.specs.Text.{line_feed}
use Rattle.trace_text.specs.declared.line.Line.{Line}
use Rattle.trace_replay.specs.Between.{stand}
use Rattle.trace_replay.specs.Events.{IsEnded, IsTextOf}
use Rattle.trace_replay.specs.Reading.{IsJudged}
use Rattle.trace_replay.specs.Feeding.{IsFeedRead}
use Rattle.trace_replay.specs.Judging.{AtEvents, IsNotRun}
use Rattle.trace_replay.specs.declared.bytes.TheConstants.{TRACE_FEED}
use Rattle.trace_replay.specs.declared.reading.Read.{Read}
use Rattle.trace_replay.proofs.Heads.{err_after, fault_after, stops_judged}
use Rattle.trace_replay.proofs.Led.{LedTo, names_too, fault_over, is_next, led_end, led_fails, led_more, led_none}
use Rattle.trace_replay.proofs.Looped.{ready_pulled}
use Rattle.trace_replay.proofs.Pulling.{only_line, only_none, only_then, only_at, risen_after}
use Rattle.trace_replay.proofs.Told.{okay_after}
use Rattle.trace_replay.proofs.events.read_events.Goals as goal

pub lines-init : goal.lines-init
lines-init g c = record {
  led = led_none c.args.trace.now (stand g.A.Firing.cell g.F.Feeds.feeds c.args.replay.now c.args.feeds.now) c.args.replay.now.grow;
  firings = omega (arith, c.requires.none_fired);
  rounds = omega (arith, c.requires.none_delivered);
  is_open = c.requires.open;
  counted = c.requires.counted;
  count = c.requires.count;
  ready = c.requires.ready;
  grow = refl;
  links = refl;
  noted = c.requires.noted;
  read = refl;
  trace_grow = c.requires.grow;
  pulls = only_none (g.F.Feeds.feeds c.args.feeds.now);
}

pub come-requires-clause-ready : goal.come-requires-clause-ready
come-requires-clause-ready g c =
    ready_pulled (stand g.A.Firing.cell g.F.Feeds.feeds c.lines.replay c.lines.feeds) (stand g.A.Firing.cell g.F.Feeds.feeds c.lines.replay c.next_line.new.feeds)
    c.lines.replay.links.items (length c.lines.replay.came.items) c.lines.replay.grow refl refl refl refl c.next_line.ensures.elsewhere c.lines.invariant.ready

pub lines-preserved : goal.lines-preserved
lines-preserved g c = record {
  led = λ t text inputs begins.
      led_more t text inputs c.lines.trace c.next_line.new.self (stand g.A.Firing.cell g.F.Feeds.feeds c.lines.replay c.lines.feeds)
      (stand g.A.Firing.cell g.F.Feeds.feeds c.come.new.self c.come.new.feeds) (g.F.Feeds.feeds c.next_line.new.feeds) c.lines.replay.grow c.in-Ok.read.line c.in-Ok.read.same
      (begins.grow_is ∙ sym c.lines.invariant.grow) begins.wired begins.lawful (c.lines.invariant.led t text inputs begins)
      (is_next c.lines.trace c.next_line.new.self (stand g.A.Firing.cell g.F.Feeds.feeds c.lines.replay c.lines.feeds) (g.F.Feeds.feeds c.next_line.new.feeds)
      c.lines.replay.grow c.in-Ok.read.line c.in-Ok.read.same c.lines.invariant.trace_grow c.next_line.ensures.elsewhere c.in-Ok.ensures.read c.in-Ok.ensures.count)
      c.in-Goes.ensures.goes c.in-Goes.ensures.counts c.in-Goes.ensures.goes_on c.come.ensures.elsewhere;
  firings = omega (arith, c.lines.invariant.firings, c.in-Goes.ensures.firings, c.in-Ok.ensures.count);
  rounds = omega (arith, c.lines.invariant.rounds, c.in-Goes.ensures.rounds, c.in-Ok.ensures.count);
  is_open = c.come.ensures.elsewhere.pulls.same_open TRACE_FEED ∙ c.next_line.ensures.elsewhere.same_open TRACE_FEED ∙ c.lines.invariant.is_open;
  counted = c.in-Ok.ensures.counted;
  count = c.in-Goes.ensures.still_count;
  ready = c.in-Goes.ensures.still_ready;
  grow = c.in-Goes.ensures.grow ∙ c.lines.invariant.grow;
  links = c.in-Goes.ensures.links ∙ c.lines.invariant.links;
  read = c.in-Goes.ensures.still_read ∙ c.lines.invariant.read;
  noted = c.in-Goes.ensures.noted ∙ (c.lines.invariant.noted ∙ sym (ap (λ ls. length ls.items) c.in-Goes.ensures.links));
  trace_grow = c.next_line.ensures.grow ∙ c.lines.invariant.trace_grow ∙ sym c.in-Goes.ensures.grow;
  pulls = only_line TRACE_FEED (g.F.Feeds.feeds c.args.feeds.now) (g.F.Feeds.feeds c.lines.feeds) (g.F.Feeds.feeds c.next_line.new.feeds) (g.F.Feeds.feeds c.come.new.feeds)
      c.lines.invariant.pulls c.next_line.ensures.elsewhere c.come.ensures.elsewhere.pulls;
}

pub returns-in-Err-clause-judged : goal.returns-in-Err-clause-judged
returns-in-Err-clause-judged g c = λ t text inputs begins.
    let led : LedTo t text inputs c.lines.trace (stand g.A.Firing.cell g.F.Feeds.feeds c.lines.replay c.lines.feeds) = c.lines.invariant.led t text inputs begins in
    (stops_judged t text line_feed c.lines.trace.grow c.lines.trace.count c.lines.trace.lines.passed (AtEvents led.opened led.s)
    (coming_on c.lines.trace.lines.bytes (g.F.Feeds.feeds c.lines.feeds) TRACE_FEED) (coming_on c.next_line.new.self.lines.bytes (g.F.Feeds.feeds c.next_line.new.feeds) TRACE_FEED)
    c.in-Err.fault (begins.grow_is ∙ sym c.lines.invariant.grow ∙ sym c.lines.invariant.trace_grow) led.reached (λ over. over) c.in-Err.ensures.stops)

pub returns-in-Err-clause-failed : goal.returns-in-Err-clause-failed
returns-in-Err-clause-failed g c =
    fault_over Read Line c.in-Err.fault (ReadFails g.F.Feeds.feeds c.lines.feeds c.next_line.new.feeds) (ReadFails g.F.Feeds.feeds c.args.feeds.now c.next_line.new.feeds)
    (λ risen. risen_after (g.F.Feeds.feeds c.args.feeds.now).faults (g.F.Feeds.feeds c.lines.feeds).faults (g.F.Feeds.feeds c.next_line.new.feeds).faults c.lines.invariant.pulls.faults_stay risen)
    c.in-Err.ensures.failed

pub returns-in-Ends-clause-ended : goal.returns-in-Ends-clause-ended
returns-in-Ends-clause-ended g c =
    okay_after c.end_at.result _ _
    (λ line whole. λ t text inputs begins.
    let to = led_end t text inputs c.lines.trace c.next_line.new.self (stand g.A.Firing.cell g.F.Feeds.feeds c.lines.replay c.lines.feeds) (g.F.Feeds.feeds c.next_line.new.feeds)
    (g.F.Feeds.feeds c.come.new.feeds) c.lines.replay.grow c.in-Ok.read.line c.in-Ok.read.same c.come.new.self.numbers
    (begins.grow_is ∙ sym c.lines.invariant.grow) begins.wired begins.lawful (c.lines.invariant.led t text inputs begins)
    (is_next c.lines.trace c.next_line.new.self (stand g.A.Firing.cell g.F.Feeds.feeds c.lines.replay c.lines.feeds) (g.F.Feeds.feeds c.next_line.new.feeds)
    c.lines.replay.grow c.in-Ok.read.line c.in-Ok.read.same c.lines.invariant.trace_grow c.next_line.ensures.elsewhere c.in-Ok.ensures.read c.in-Ok.ensures.count)
    c.in-Ends.ensures.ends c.in-Ends.ensures.counts_all c.in-Ends.ensures.is_end c.come.ensures.elsewhere in
    let both = whole.1 t text c.in-Ok.read.line to.last to.has in
    subst (λ end. IsEnded t text inputs end c.come.new.self.numbers) (sym whole.0) (record {
      last = to.last;
      whole = both.0;
      lines = to.lines;
      text_of = subst (λ a. IsTextOf t a to.lines to.last) (sym both.1) to.text_of;
      counted = to.counted;
    }))
    c.end_at.ensures.whole

pub returns-in-Ends-clause-judged : goal.returns-in-Ends-clause-judged
returns-in-Ends-clause-judged g c =
    err_after c.end_at.result _ _
    (λ fault judged. λ t text inputs begins.
    let to = led_end t text inputs c.lines.trace c.next_line.new.self (stand g.A.Firing.cell g.F.Feeds.feeds c.lines.replay c.lines.feeds) (g.F.Feeds.feeds c.next_line.new.feeds)
    (g.F.Feeds.feeds c.come.new.feeds) c.lines.replay.grow c.in-Ok.read.line c.in-Ok.read.same c.come.new.self.numbers
    (begins.grow_is ∙ sym c.lines.invariant.grow) begins.wired begins.lawful (c.lines.invariant.led t text inputs begins)
    (is_next c.lines.trace c.next_line.new.self (stand g.A.Firing.cell g.F.Feeds.feeds c.lines.replay c.lines.feeds) (g.F.Feeds.feeds c.next_line.new.feeds)
    c.lines.replay.grow c.in-Ok.read.line c.in-Ok.read.same c.lines.invariant.trace_grow c.next_line.ensures.elsewhere c.in-Ok.ensures.read c.in-Ok.ensures.count)
    c.in-Ends.ensures.ends c.in-Ends.ensures.counts_all c.in-Ends.ensures.is_end c.come.ensures.elsewhere in
    judged t text c.in-Ok.read.line to.last to.has)
    c.end_at.ensures.judged

pub returns-in-Ends-clause-failed : goal.returns-in-Ends-clause-failed
returns-in-Ends-clause-failed g c =
    fault_after c.end_at.result (ReadFails g.F.Feeds.feeds c.come.new.feeds c.end_at.new.feeds) (ReadFails g.F.Feeds.feeds c.args.feeds.now c.end_at.new.feeds)
    (λ risen. risen_after (g.F.Feeds.feeds c.args.feeds.now).faults (g.F.Feeds.feeds c.come.new.feeds).faults (g.F.Feeds.feeds c.end_at.new.feeds).faults
    (omega (arith, c.lines.invariant.pulls.faults_stay, c.next_line.ensures.elsewhere.faults_stay, c.come.ensures.elsewhere.pulls.faults_stay)) risen)
    c.end_at.ensures.failed

pub returns-in-Fails-clause-judged : goal.returns-in-Fails-clause-judged
returns-in-Fails-clause-judged g c = λ t text inputs begins.
    subst (IsJudged t text) (sym c.not_run.ensures)
    (subst (λ n. IsNotRun t text n c.in-Fails.why) (sym c.number.ensures)
    (led_fails t text inputs c.lines.trace c.next_line.new.self (stand g.A.Firing.cell g.F.Feeds.feeds c.lines.replay c.lines.feeds) (g.F.Feeds.feeds c.next_line.new.feeds)
    c.lines.replay.grow c.in-Ok.read.line c.in-Ok.read.same c.in-Fails.why
    (begins.grow_is ∙ sym c.lines.invariant.grow) begins.wired begins.lawful (c.lines.invariant.led t text inputs begins)
    (is_next c.lines.trace c.next_line.new.self (stand g.A.Firing.cell g.F.Feeds.feeds c.lines.replay c.lines.feeds) (g.F.Feeds.feeds c.next_line.new.feeds)
    c.lines.replay.grow c.in-Ok.read.line c.in-Ok.read.same c.lines.invariant.trace_grow c.next_line.ensures.elsewhere c.in-Ok.ensures.read c.in-Ok.ensures.count)
    c.in-Fails.ensures.fails))

pub returns-in-FeedFails-clause-failed : goal.returns-in-FeedFails-clause-failed
returns-in-FeedFails-clause-failed g c =
    risen_after (g.F.Feeds.feeds c.args.feeds.now).faults (g.F.Feeds.feeds c.next_line.new.feeds).faults (g.F.Feeds.feeds c.come.new.feeds).faults
    (omega (arith, c.lines.invariant.pulls.faults_stay, c.next_line.ensures.elsewhere.faults_stay)) c.in-FeedFails.ensures.failed

pub come-requires-clause-few : goal.come-requires-clause-few
come-requires-clause-few g c = record {
  firings = omega (arith, c.lines.invariant.firings, c.lines.invariant.counted.lines, c.lines.invariant.counted.within);
  rounds = omega (arith, c.lines.invariant.rounds, c.lines.invariant.counted.lines, c.lines.invariant.counted.within);
}

pub returns-in-Err-clause-feeds_stay : goal.returns-in-Err-clause-feeds_stay
returns-in-Err-clause-feeds_stay g c =
    only_then (g.F.Feeds.feeds c.args.feeds.now) (g.F.Feeds.feeds c.lines.feeds) (g.F.Feeds.feeds c.next_line.new.feeds)
    c.lines.invariant.pulls (only_at TRACE_FEED (g.F.Feeds.feeds c.lines.feeds) (g.F.Feeds.feeds c.next_line.new.feeds) c.next_line.ensures.elsewhere)

pub returns-in-Fails-clause-feeds_stay : goal.returns-in-Fails-clause-feeds_stay
returns-in-Fails-clause-feeds_stay g c =
    only_line TRACE_FEED (g.F.Feeds.feeds c.args.feeds.now) (g.F.Feeds.feeds c.lines.feeds) (g.F.Feeds.feeds c.next_line.new.feeds) (g.F.Feeds.feeds c.come.new.feeds)
    c.lines.invariant.pulls c.next_line.ensures.elsewhere c.come.ensures.elsewhere.pulls

pub returns-in-FeedFails-clause-feeds_stay : goal.returns-in-FeedFails-clause-feeds_stay
returns-in-FeedFails-clause-feeds_stay g c =
    only_line TRACE_FEED (g.F.Feeds.feeds c.args.feeds.now) (g.F.Feeds.feeds c.lines.feeds) (g.F.Feeds.feeds c.next_line.new.feeds) (g.F.Feeds.feeds c.come.new.feeds)
    c.lines.invariant.pulls c.next_line.ensures.elsewhere c.come.ensures.elsewhere.pulls

pub returns-in-Ends-clause-feeds_stay : goal.returns-in-Ends-clause-feeds_stay
returns-in-Ends-clause-feeds_stay g c =
    only_then (g.F.Feeds.feeds c.args.feeds.now) (g.F.Feeds.feeds c.come.new.feeds) (g.F.Feeds.feeds c.end_at.new.feeds)
    (only_line TRACE_FEED (g.F.Feeds.feeds c.args.feeds.now) (g.F.Feeds.feeds c.lines.feeds) (g.F.Feeds.feeds c.next_line.new.feeds) (g.F.Feeds.feeds c.come.new.feeds)
    c.lines.invariant.pulls c.next_line.ensures.elsewhere c.come.ensures.elsewhere.pulls)
    (only_at TRACE_FEED (g.F.Feeds.feeds c.come.new.feeds) (g.F.Feeds.feeds c.end_at.new.feeds) c.end_at.ensures.elsewhere)

pub returns-in-Err-clause-feed : goal.returns-in-Err-clause-feed
returns-in-Err-clause-feed g c = names_too c.args.replay.now.links.items (map is_some c.args.replay.now.readers.items) c.in-Err.fault c.in-Err.ensures.feed

pub returns-in-Ends-clause-feed : goal.returns-in-Ends-clause-feed
returns-in-Ends-clause-feed g c = err_after c.end_at.result _ _ (λ fault named. names_too c.args.replay.now.links.items (map is_some c.args.replay.now.readers.items) fault named) c.end_at.ensures.feed

pub returns-in-FeedFails-clause-feed : goal.returns-in-FeedFails-clause-feed
returns-in-FeedFails-clause-feed g c = inr (subst (λ read. IsFeedRead c.args.replay.now.links.items read c.in-FeedFails.feed) c.lines.invariant.read
    (subst (λ links. IsFeedRead links.items (map is_some c.lines.replay.readers.items) c.in-FeedFails.feed) c.lines.invariant.links c.in-FeedFails.ensures.feed))
