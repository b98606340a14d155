-- The feed of the generator's network.
-- Trusted: part of what a promise means.
use Rattle.std.specs.Prelude.{ℕ, zero, suc, ◌+◌, ◌*◌, ◌/◌, ◌%◌, List, [], ◌∷◌, ◌++◌}
use Rattle.cmd_gen_network.specs.declared.feed.TheConstants.{FEED_BYTES}

-- the sequence from which the bytes are drawn
abbrev pub next_seed : ℕ → ℕ
next_seed seed = (seed * 1103515245 + 12345) % 2147483648

-- the byte that a number of it gives
abbrev pub byte_of : ℕ → ℕ
byte_of seed = seed / 65536 % 256

-- the number that stands so many places behind this one
abbrev pub seed_after : ℕ → ℕ → ℕ
seed_after zero seed = seed
seed_after (suc k) seed = next_seed (seed_after k seed)

-- the bytes of so many numbers behind this one
abbrev pub first_bytes : ℕ → ℕ → List ℕ
first_bytes zero seed = []
first_bytes (suc k) seed = first_bytes k seed ++ byte_of (seed_after (suc k) seed) ∷ []

-- the feed of a network of so many instances: the sequence begins with their number
unfoldable pub bytes_of : ℕ → List ℕ
bytes_of instances = first_bytes FEED_BYTES instances
