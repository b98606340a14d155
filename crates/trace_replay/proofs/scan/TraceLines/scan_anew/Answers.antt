use Rattle.std.proofs.Common.{◌++◌, ◌<◌, ◌≡◌, arith, subst}
use Rattle.port_files.specs.Coming.{coming_on}
use Rattle.trace_text.specs.Text.{line_feed}
use Rattle.trace_replay.specs.Coming.{GivesByte}
use Rattle.trace_replay.specs.Judging.{max_trace_bytes}
use Rattle.trace_replay.specs.declared.bytes.TheConstants.{TRACE_FEED}
use Rattle.trace_replay.proofs.Limits.{max_is}
use Rattle.trace_replay.proofs.Pulling.{pulls_then}
use Rattle.trace_replay.proofs.Scanned.{past_scans, past_within, scanned_bad, scanned_cut, scanned_line, scanning_more}
use Rattle.trace_replay.proofs.scan.TraceLines.scan_anew.Goals as goal

pub returns-in_default-next-clause-scans : goal.returns-in_default-next-clause-scans
returns-in_default-next-clause-scans g c =
    let before = coming_on c.args.self.now.bytes (g.F.Feeds.feeds c.args.feeds.now) TRACE_FEED in
    let now = coming_on c.bytes.self.bytes (g.F.Feeds.feeds c.bytes.feeds) TRACE_FEED in
    let after = coming_on c.next.new.self (g.F.Feeds.feeds c.next.new.feeds) TRACE_FEED in
    scanned_cut (c.args.front.now ++ c.args.name.now ++ line_feed) c.bytes.reader c.bytes.same c.args.self.now.passed c.bytes.self.passed before now after
    c.bytes.invariant.scanning (subst (λ o. GivesByte o now after) c.in_default-next.is c.in-Ok.ensures.byte)

pub bytes-smaller : goal.bytes-smaller
bytes-smaller g c =
    let more : c.bytes.self.passed < max_trace_bytes = omega (arith, max_is, c.bytes-test.true) in
    omega (arith, more)

pub bytes-preserved : goal.bytes-preserved
bytes-preserved g c =
    let before = coming_on c.args.self.now.bytes (g.F.Feeds.feeds c.args.feeds.now) TRACE_FEED in
    let now = coming_on c.bytes.self.bytes (g.F.Feeds.feeds c.bytes.feeds) TRACE_FEED in
    let after = coming_on c.next.new.self (g.F.Feeds.feeds c.next.new.feeds) TRACE_FEED in
    record {
      scanning = scanning_more (c.args.front.now ++ c.args.name.now ++ line_feed) c.bytes.reader c.next-in-bytes.new.self c.bytes.same c.still_expected-same.result
          c.args.self.now.passed c.bytes.self.passed c.in-Some.byte before now after
          c.bytes.invariant.scanning (subst (λ o. GivesByte o now after) c.in-Some.is c.in-Ok.ensures.byte) c.still_expected-same.ensures c.in-More.ensures.told;
      within = omega (arith, max_is, c.bytes-test.true);
      elsewhere = pulls_then TRACE_FEED (g.F.Feeds.feeds c.args.feeds.now) (g.F.Feeds.feeds c.bytes.feeds) (g.F.Feeds.feeds c.next.new.feeds)
          c.bytes.invariant.elsewhere c.next.ensures.elsewhere;
    }

pub returns-in-Line : goal.returns-in-Line
returns-in-Line g c =
    let before = coming_on c.args.self.now.bytes (g.F.Feeds.feeds c.args.feeds.now) TRACE_FEED in
    let now = coming_on c.bytes.self.bytes (g.F.Feeds.feeds c.bytes.feeds) TRACE_FEED in
    let after = coming_on c.next.new.self (g.F.Feeds.feeds c.next.new.feeds) TRACE_FEED in
    record {
      scans = scanned_line (c.args.front.now ++ c.args.name.now ++ line_feed) c.bytes.reader c.next-in-bytes.new.self c.bytes.same c.still_expected-same.result c.is_whole-whole.result
          c.args.self.now.passed c.bytes.self.passed c.in-Some.byte c.in-Line.line before now after
          c.bytes.invariant.scanning (subst (λ o. GivesByte o now after) c.in-Some.is c.in-Ok.ensures.byte) c.still_expected-same.ensures c.is_whole-whole.ensures c.in-Line.ensures.told;
      within = omega (arith, max_is, c.bytes-test.true);
      failed = tt;
      elsewhere = pulls_then TRACE_FEED (g.F.Feeds.feeds c.args.feeds.now) (g.F.Feeds.feeds c.bytes.feeds) (g.F.Feeds.feeds c.next.new.feeds)
          c.bytes.invariant.elsewhere c.next.ensures.elsewhere;
    }

pub returns-in-Bad : goal.returns-in-Bad
returns-in-Bad g c =
    let before = coming_on c.args.self.now.bytes (g.F.Feeds.feeds c.args.feeds.now) TRACE_FEED in
    let now = coming_on c.bytes.self.bytes (g.F.Feeds.feeds c.bytes.feeds) TRACE_FEED in
    let after = coming_on c.next.new.self (g.F.Feeds.feeds c.next.new.feeds) TRACE_FEED in
    record {
      scans = scanned_bad (c.args.front.now ++ c.args.name.now ++ line_feed) c.bytes.reader c.next-in-bytes.new.self c.bytes.same
          c.args.self.now.passed c.bytes.self.passed c.in-Some.byte before now after
          c.bytes.invariant.scanning (subst (λ o. GivesByte o now after) c.in-Some.is c.in-Ok.ensures.byte) c.in-Bad.ensures.told;
      within = omega (arith, max_is, c.bytes-test.true);
      failed = tt;
      elsewhere = pulls_then TRACE_FEED (g.F.Feeds.feeds c.args.feeds.now) (g.F.Feeds.feeds c.bytes.feeds) (g.F.Feeds.feeds c.next.new.feeds)
          c.bytes.invariant.elsewhere c.next.ensures.elsewhere;
    }

pub scan_past-requires-clause-full : goal.scan_past-requires-clause-full
scan_past-requires-clause-full g c = omega (arith, max_is, c.bytes.invariant.within, c.bytes-test.false)

pub returns-clause-scans : goal.returns-clause-scans
returns-clause-scans g c =
    let before = coming_on c.args.self.now.bytes (g.F.Feeds.feeds c.args.feeds.now) TRACE_FEED in
    let now = coming_on c.bytes.self.bytes (g.F.Feeds.feeds c.bytes.feeds) TRACE_FEED in
    let after = coming_on c.scan_past.new.self.bytes (g.F.Feeds.feeds c.scan_past.new.feeds) TRACE_FEED in
    let full : c.bytes.self.passed ≡ max_trace_bytes = omega (arith, max_is, c.bytes.invariant.within, c.bytes-test.false) in
    past_scans c.scan_past.result (c.args.front.now ++ c.args.name.now ++ line_feed) c.bytes.reader c.bytes.same c.args.self.now.passed c.bytes.self.passed c.scan_past.new.self.passed
    before now after c.bytes.invariant.scanning full c.scan_past.ensures.past

pub returns-clause-within : goal.returns-clause-within
returns-clause-within g c =
    let now = coming_on c.bytes.self.bytes (g.F.Feeds.feeds c.bytes.feeds) TRACE_FEED in
    let after = coming_on c.scan_past.new.self.bytes (g.F.Feeds.feeds c.scan_past.new.feeds) TRACE_FEED in
    let full : c.bytes.self.passed ≡ max_trace_bytes = omega (arith, max_is, c.bytes.invariant.within, c.bytes-test.false) in
    past_within c.scan_past.result c.bytes.self.passed c.scan_past.new.self.passed now after full c.scan_past.ensures.past
