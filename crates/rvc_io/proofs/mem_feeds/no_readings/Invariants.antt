use Rattle.std.proofs.Common.{◌≡◌, None, replicate}
use Rattle.rvc_io.proofs.mem_feeds.no_readings.Given as goal

-- so many as were begun so far
abbrev pub invariant-loop-feed : goal.invariant-loop-feed
invariant-loop-feed l = l.readings.items ≡ replicate l._feed None
