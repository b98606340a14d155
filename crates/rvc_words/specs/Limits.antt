-- The limits and the defaults of the options.
-- Trusted: part of what a promise means.
use Rattle.std.specs.Prelude.{ℕ}

-- the most digits of a number; leading zeros count
abbrev pub max_digits : ℕ
max_digits = 20

abbrev pub default_workers : ℕ
default_workers = 1

abbrev pub max_workers : ℕ
max_workers = 64

-- firings of an instance in one round
abbrev pub default_burst : ℕ
default_burst = 64

abbrev pub max_burst : ℕ
max_burst = 65536

-- firings of a run
abbrev pub default_budget : ℕ
default_budget = 100000000

abbrev pub max_budget : ℕ
max_budget = 1000000000000

-- tokens that a link which grows can hold
abbrev pub max_grow : ℕ
max_grow = 1048576

-- the greatest start of the policy `seed:N`
abbrev pub max_seed : ℕ
max_seed = 18446744073709551615

-- the greatest number of a generated network
abbrev pub max_generated : ℕ
max_generated = 1000
