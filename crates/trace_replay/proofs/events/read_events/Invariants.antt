use Rattle.std.specs.Prelude.{◌≡◌, ◌-◌, ◌≤◌, true, is_some, length, map}
use Rattle.trace_replay.specs.Between.{IsReadyToGo, stand}
use Rattle.trace_replay.specs.Feeding.{OnlyPulls}
use Rattle.trace_replay.specs.Judging.{max_trace_bytes}
use Rattle.trace_replay.specs.Reading.{IsCounted}
use Rattle.trace_replay.specs.declared.bytes.TheConstants.{TRACE_FEED}
use Rattle.trace_replay.proofs.Led.{LedFrom}
use Rattle.trace_replay.proofs.events.read_events.Given as goal

abbrev pub invariant-lines : goal.invariant-lines
invariant-lines g l =
    record {
      led : LedFrom l.initial.trace (stand g.A.Firing.cell g.F.Feeds.feeds l.initial.replay l.initial.feeds) l.initial.replay.grow
          l.trace (stand g.A.Firing.cell g.F.Feeds.feeds l.replay l.feeds);
      firings : l.replay.numbers.firings ≤ l.trace.count;
      rounds : l.replay.numbers.rounds ≤ l.trace.count;
      is_open : (g.F.Feeds.feeds l.feeds).is_open TRACE_FEED ≡ true;
      counted : IsCounted l.trace.count l.trace.lines.passed;
      count : l.replay.count ≡ length l.replay.state.cells;
      ready : IsReadyToGo g.A.Firing.cell g.F.Feeds.feeds l.replay l.feeds;
      grow : l.replay.grow ≡ l.initial.replay.grow;
      links : l.replay.links ≡ l.initial.replay.links;
      read : map is_some l.replay.readers.items ≡ map is_some l.initial.replay.readers.items;
      noted : length l.replay.noted.items ≡ length l.replay.links.items;
      trace_grow : l.trace.grow ≡ l.replay.grow;
      pulls : OnlyPulls (g.F.Feeds.feeds l.initial.feeds) (g.F.Feeds.feeds l.feeds);
    }

abbrev pub decreases-lines : goal.decreases-lines
decreases-lines g l = max_trace_bytes - l.trace.count
