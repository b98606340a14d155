use Rattle.std.specs.Prelude.{◌≡◌}
use Rattle.cmd_gen_network.specs.Feed.{first_bytes, seed_after}
use Rattle.cmd_gen_network.proofs.feed.first_bytes.Given as goal

-- the bytes of the numbers so far
abbrev pub invariant-loop-k : goal.invariant-loop-k
invariant-loop-k l = (l.bytes.items ≡ first_bytes l._k l.first) × (l.seed ≡ seed_after l._k l.first)
