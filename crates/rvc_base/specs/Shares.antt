-- How the firings that are left of a budget are shared by the picked instances.
-- Trusted: part of what a promise means.
use Rattle.std.specs.Prelude.{ℕ, ◌+◌, ◌/◌, ◌%◌, map, min, nat_lt, sum, if◌then◌else◌}
use Rattle.std.specs.List.{range_with_len}

-- the share of the k-th picked instance, counted from 0
abbrev pub share : ℕ → ℕ → ℕ → ℕ
share left picked k = left / picked + (if nat_lt k (left % picked) then 1 else 0)

-- how often it may fire, if no instance fires more often than burst in a round
abbrev pub allowed : ℕ → ℕ → ℕ → ℕ → ℕ
allowed left picked burst k = min burst (share left picked k)

-- how often they may fire together
abbrev pub allowed_together : ℕ → ℕ → ℕ → ℕ
allowed_together left picked burst = sum (map (allowed left picked burst) (range_with_len 0 picked))
