use Rattle.std.proofs.Common.{sym, subst, ◌++◌, ◌≡◌, ◌∙◌}
use Rattle.std.specs.Prelude.{string_bytes}
use Rattle.port_files.specs.Coming.{coming_on}
use Rattle.trace_text.specs.declared.line.Line.TheVariants.{Inst}
use Rattle.trace_text.specs.Text.{line_feed, line_text}
use Rattle.trace_replay.specs.Judging.{AtInstance, IsNotRun}
use Rattle.trace_replay.specs.Reading.{IsJudged, IsRead}
use Rattle.trace_replay.specs.declared.bytes.TheConstants.{TRACE_FEED}
use Rattle.trace_replay.specs.declared.why.Why.TheVariants.{Header}
use Rattle.trace_replay.proofs.Heads.{instance_other, instance_read, stops_judged}
use Rattle.trace_replay.proofs.head.read_instance.Goals as goal

pub returns-clause-read : goal.returns-clause-read
returns-clause-read g c = λ t text leaf leaves same named has.
    let before = coming_on c.args.trace.now.lines.bytes (g.F.Feeds.feeds c.args.feeds.now) TRACE_FEED in
    let after = coming_on c.next_line.new.self.lines.bytes (g.F.Feeds.feeds c.next_line.new.feeds) TRACE_FEED in
    let front : c.as_slice.result.now ≡ line_text (Inst c.args.k) = c.as_slice.ensures.value ∙ c.write_front.ensures.text in
    let read : IsRead (line_text (Inst c.args.k) ++ string_bytes c.args.name.now ++ line_feed) c.args.trace.now.grow c.args.trace.now.lines.passed c.next_line.new.self.lines.passed before after
    c.in-Ok.read.line c.in-Ok.read.same =
    subst (λ a. IsRead (a ++ string_bytes c.args.name.now ++ line_feed) c.args.trace.now.grow c.args.trace.now.lines.passed c.next_line.new.self.lines.passed before after
    c.in-Ok.read.line c.in-Ok.read.same) front
    (subst (λ b. IsRead (c.as_slice.result.now ++ b ++ line_feed) c.args.trace.now.grow c.args.trace.now.lines.passed c.next_line.new.self.lines.passed before after
    c.in-Ok.read.line c.in-Ok.read.same) c.as_bytes.ensures.value c.in-Ok.ensures.read) in
    instance_read t text (string_bytes c.args.name.now) c.args.trace.now.grow c.args.k c.args.trace.now.count c.next_line.new.self.count c.args.trace.now.lines.passed c.next_line.new.self.lines.passed
    leaf leaves before after c.in-Ok.read.line c.in-Ok.read.same named has read c.in-Ok.ensures.count (c.is_instance.ensures.yes c.if-not-is_instance.false)

pub returns-in-Err-clause-judged : goal.returns-in-Err-clause-judged
returns-in-Err-clause-judged g c = λ t text leaf leaves same named has.
    let before = coming_on c.args.trace.now.lines.bytes (g.F.Feeds.feeds c.args.feeds.now) TRACE_FEED in
    let after = coming_on c.next_line.new.self.lines.bytes (g.F.Feeds.feeds c.next_line.new.feeds) TRACE_FEED in
    stops_judged t text (c.as_slice.result.now ++ c.as_bytes.result.now ++ line_feed) c.args.trace.now.grow c.args.trace.now.count c.args.trace.now.lines.passed (AtInstance c.args.k leaf leaves)
    before after c.in-Err.fault same has (λ over. over) c.in-Err.ensures.stops

pub returns-then-not-is_instance-clause-judged : goal.returns-then-not-is_instance-clause-judged
returns-then-not-is_instance-clause-judged g c = λ t text leaf leaves same named has.
    let before = coming_on c.args.trace.now.lines.bytes (g.F.Feeds.feeds c.args.feeds.now) TRACE_FEED in
    let after = coming_on c.next_line.new.self.lines.bytes (g.F.Feeds.feeds c.next_line.new.feeds) TRACE_FEED in
    let front : c.as_slice.result.now ≡ line_text (Inst c.args.k) = c.as_slice.ensures.value ∙ c.write_front.ensures.text in
    let read : IsRead (line_text (Inst c.args.k) ++ string_bytes c.args.name.now ++ line_feed) c.args.trace.now.grow c.args.trace.now.lines.passed c.next_line.new.self.lines.passed before after
    c.in-Ok.read.line c.in-Ok.read.same =
    subst (λ a. IsRead (a ++ string_bytes c.args.name.now ++ line_feed) c.args.trace.now.grow c.args.trace.now.lines.passed c.next_line.new.self.lines.passed before after
    c.in-Ok.read.line c.in-Ok.read.same) front
    (subst (λ b. IsRead (c.as_slice.result.now ++ b ++ line_feed) c.args.trace.now.grow c.args.trace.now.lines.passed c.next_line.new.self.lines.passed before after
    c.in-Ok.read.line c.in-Ok.read.same) c.as_bytes.ensures.value c.in-Ok.ensures.read) in
    subst (IsJudged t text) (sym c.not_run.ensures)
    (subst (λ k. IsNotRun t text k Header) (sym c.number.ensures)
    (instance_other t text (string_bytes c.args.name.now) c.args.trace.now.grow c.args.k c.args.trace.now.count c.next_line.new.self.count c.args.trace.now.lines.passed c.next_line.new.self.lines.passed
    leaf leaves before after c.in-Ok.read.line c.in-Ok.read.same same named has read c.in-Ok.ensures.count (c.is_instance.ensures.no c.if-not-is_instance.true)))
