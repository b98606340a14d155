use Rattle.std.proofs.Common.{sym, subst}
use Rattle.port_files.specs.Coming.{coming_on}
use Rattle.trace_text.specs.Text.{line_feed}
use Rattle.trace_replay.specs.Judging.{AtFirst, IsNotRun}
use Rattle.trace_replay.specs.Reading.{IsJudged}
use Rattle.trace_replay.specs.declared.bytes.TheConstants.{TRACE_FEED}
use Rattle.trace_replay.specs.declared.why.Why.TheVariants.{Header}
use Rattle.trace_replay.proofs.Heads.{first_other, first_read, stops_judged}
use Rattle.trace_replay.proofs.head.read_first.Goals as goal

pub returns-clause-read : goal.returns-clause-read
returns-clause-read g c = λ t text same first has.
    first_read t text line_feed c.args.trace.now.grow c.args.trace.now.count c.next_line.new.self.count c.args.trace.now.lines.passed c.next_line.new.self.lines.passed
    (coming_on c.args.trace.now.lines.bytes (g.F.Feeds.feeds c.args.feeds.now) TRACE_FEED) (coming_on c.next_line.new.self.lines.bytes (g.F.Feeds.feeds c.next_line.new.feeds) TRACE_FEED)
    c.in-Ok.read.line c.args.first.now c.in-Ok.read.same first has c.in-Ok.ensures.read c.in-Ok.ensures.count (c.is_line.ensures.yes c.if-not-is_line.false)

pub returns-in-Err-clause-judged : goal.returns-in-Err-clause-judged
returns-in-Err-clause-judged g c = λ t text same first has.
    stops_judged t text line_feed c.args.trace.now.grow c.args.trace.now.count c.args.trace.now.lines.passed AtFirst
    (coming_on c.args.trace.now.lines.bytes (g.F.Feeds.feeds c.args.feeds.now) TRACE_FEED) (coming_on c.next_line.new.self.lines.bytes (g.F.Feeds.feeds c.next_line.new.feeds) TRACE_FEED)
    c.in-Err.fault same has (λ over. over) c.in-Err.ensures.stops

pub returns-then-not-is_line-clause-judged : goal.returns-then-not-is_line-clause-judged
returns-then-not-is_line-clause-judged g c = λ t text same first has.
    subst (IsJudged t text) (sym c.not_run.ensures)
    (subst (λ k. IsNotRun t text k Header) (sym c.number.ensures)
    (first_other t text line_feed c.args.trace.now.grow c.args.trace.now.count c.next_line.new.self.count c.args.trace.now.lines.passed c.next_line.new.self.lines.passed
    (coming_on c.args.trace.now.lines.bytes (g.F.Feeds.feeds c.args.feeds.now) TRACE_FEED) (coming_on c.next_line.new.self.lines.bytes (g.F.Feeds.feeds c.next_line.new.feeds) TRACE_FEED)
    c.in-Ok.read.line c.args.first.now c.in-Ok.read.same same first has c.in-Ok.ensures.read c.in-Ok.ensures.count (c.is_line.ensures.no c.if-not-is_line.true)))
