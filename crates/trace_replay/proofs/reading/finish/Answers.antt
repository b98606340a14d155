use Rattle.std.proofs.Common.{◌≤◌, sym, subst, arith}
use Rattle.port_files.specs.Coming.{coming_on}
use Rattle.trace_replay.specs.Judging.{max_trace_bytes}
use Rattle.trace_replay.specs.Reading.{IsJudged, TellsRest}
use Rattle.trace_replay.specs.declared.bytes.TheConstants.{TRACE_FEED}
use Rattle.trace_replay.proofs.Limits.{max_is}
use Rattle.trace_replay.proofs.Whole.{behind_end, past_end, text_is, whole_is}
use Rattle.trace_replay.proofs.reading.finish.Goals as goal

pub overflow_add-number : goal.overflow_add-number
overflow_add-number g c = omega (arith, c.requires.counted.lines, c.requires.counted.within, max_is)

pub returns-then-full-clause-judged : goal.returns-then-full-clause-judged
returns-then-full-clause-judged g c = λ t text end last has.
    subst (IsJudged t text) (sym c.not_run.ensures)
    (past_end t text c.args.trace.now.count c.args.trace.now.lines.passed end last (coming_on c.args.trace.now.lines.bytes (g.F.Feeds.feeds c.args.feeds.now) TRACE_FEED) has
    (subst (λ so. TellsRest so (coming_on c.args.trace.now.lines.bytes (g.F.Feeds.feeds c.args.feeds.now) TRACE_FEED)) c.if-not-more.false c.in-Ok.ensures.rest)
    (let high : max_trace_bytes ≤ c.args.trace.now.lines.passed = c.is_full-full.ensures.yes c.if-full.true in omega (arith, high, c.requires.counted.within)))

pub returns-clause-judged : goal.returns-clause-judged
returns-clause-judged g c = λ t text end last has.
    subst (IsJudged t text) (sym c.not_run-2.ensures)
    (behind_end t text c.args.trace.now.count c.args.trace.now.lines.passed end last (coming_on c.args.trace.now.lines.bytes (g.F.Feeds.feeds c.args.feeds.now) TRACE_FEED) has
    (subst (λ so. TellsRest so (coming_on c.args.trace.now.lines.bytes (g.F.Feeds.feeds c.args.feeds.now) TRACE_FEED)) c.if-not-more.false c.in-Ok.ensures.rest)
    (c.is_full-full.ensures.no c.if-full.false))

pub returns-then-not-more-clause-whole : goal.returns-then-not-more-clause-whole
returns-then-not-more-clause-whole g c = λ t text end last has.
    let tells = subst (λ so. TellsRest so (coming_on c.args.trace.now.lines.bytes (g.F.Feeds.feeds c.args.feeds.now) TRACE_FEED)) c.if-not-more.true c.in-Ok.ensures.rest in (
      whole_is t text c.args.trace.now.count c.args.trace.now.lines.passed end last (coming_on c.args.trace.now.lines.bytes (g.F.Feeds.feeds c.args.feeds.now) TRACE_FEED) has tells c.requires.counted.within,
      text_is t text c.args.trace.now.count c.args.trace.now.lines.passed end last (coming_on c.args.trace.now.lines.bytes (g.F.Feeds.feeds c.args.feeds.now) TRACE_FEED) has tells,
    )
