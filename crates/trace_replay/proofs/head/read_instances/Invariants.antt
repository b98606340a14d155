use Rattle.std.specs.Prelude.{◌≡◌, ◌+◌, ◌-◌, ◌≤◌, length, map, string_bytes}
use Rattle.rvc_io.specs.Feeds.{PullsOnly}
use Rattle.port_files.specs.Coming.{coming_on}
use Rattle.trace_replay.specs.Reading.{IsCounted}
use Rattle.trace_replay.specs.declared.bytes.TheConstants.{TRACE_FEED}
use Rattle.trace_replay.proofs.Heads.{IsReadUpTo}
use Rattle.trace_replay.proofs.head.read_instances.Given as goal

abbrev pub invariant-names : goal.invariant-names
invariant-names g l =
    record {
      read : IsReadUpTo g.A.Firing.State (map string_bytes l.names) l.initial.trace.grow l.k l.initial.trace.count l.trace.count l.initial.trace.lines.passed l.trace.lines.passed
          (coming_on l.initial.trace.lines.bytes (g.F.Feeds.feeds l.initial.feeds) TRACE_FEED) (coming_on l.trace.lines.bytes (g.F.Feeds.feeds l.feeds) TRACE_FEED);
      number : l.trace.count ≡ l.initial.trace.count + l.k;
      counted : IsCounted l.trace.count l.trace.lines.passed;
      low : l.k ≤ length l.names;
      grow : l.trace.grow ≡ l.initial.trace.grow;
      elsewhere : PullsOnly g.F.Feeds.feeds l.initial.feeds l.feeds TRACE_FEED;
    }

abbrev pub decreases-names : goal.decreases-names
decreases-names g l = length l.names - l.k
