-- Counts of calls that went one way.
-- Trusted: part of what a promise means.
use Rattle.std.specs.Prelude.{ℕ, ◌+◌, Bool, nat_lt, if◌then◌else◌}
use Rattle.rvc_io.specs.Count.{last_count}

-- a count after one more, which stands still at its last value
abbrev pub one_more : ℕ → ℕ
one_more n = if nat_lt n last_count then n + 1 else n

-- a count after a call that is counted or not
abbrev pub counted : Bool → ℕ → ℕ
counted is_counted n = if is_counted then one_more n else n
