-- Counts of faults, which never fall, and stand still at the last value of their type.
-- Trusted: part of what a promise means.
use Rattle.std.specs.Prelude.{ℕ, ◌≤◌, ◌<◌, ◌⊎◌}

-- the last value of a count
abbrev pub last_count : ℕ
last_count = 18446744073709551615

-- the count rose, or stands at its last value
abbrev pub HasRisen : ℕ → ℕ → Type 0
HasRisen old new = (old < new) ⊎ (last_count ≤ new)
