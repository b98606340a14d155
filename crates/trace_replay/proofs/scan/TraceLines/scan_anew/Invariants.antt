use Rattle.std.specs.Prelude.{◌-◌, ◌++◌, ◌≤◌}
use Rattle.rvc_io.specs.Feeds.{PullsOnly}
use Rattle.port_files.specs.Coming.{coming_on}
use Rattle.trace_text.specs.Text.{line_feed}
use Rattle.trace_replay.specs.Judging.{max_trace_bytes}
use Rattle.trace_replay.specs.declared.bytes.TheConstants.{TRACE_FEED}
use Rattle.trace_replay.proofs.Scanned.{IsScanning}
use Rattle.trace_replay.proofs.scan.TraceLines.scan_anew.Given as goal

abbrev pub invariant-bytes : goal.invariant-bytes
invariant-bytes g l =
    record {
      scanning : IsScanning (l.front ++ l.name ++ line_feed) l.reader l.same l.begin l.self.passed
          (coming_on l.initial.self.bytes (g.F.Feeds.feeds l.initial.feeds) TRACE_FEED) (coming_on l.self.bytes (g.F.Feeds.feeds l.feeds) TRACE_FEED);
      within : l.self.passed ≤ max_trace_bytes;
      elsewhere : PullsOnly g.F.Feeds.feeds l.initial.feeds l.feeds TRACE_FEED;
    }

abbrev pub decreases-bytes : goal.decreases-bytes
decreases-bytes g l = max_trace_bytes - l.self.passed
