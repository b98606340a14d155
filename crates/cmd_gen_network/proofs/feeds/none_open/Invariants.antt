use Rattle.std.proofs.Common.{◌≡◌, None, replicate}
use Rattle.cmd_gen_network.proofs.feeds.none_open.Given as goal

-- so many as were begun so far
abbrev pub invariant-loop-feed : goal.invariant-loop-feed
invariant-loop-feed l = l.pulled.items ≡ replicate l._feed None
