-- Which calls of an object in memory fail. Its calls are numbered from 1.
-- Trusted: part of what a promise means.
use Rattle.std.specs.Prelude.{ℕ, ◌+◌, Bool, List, nat_lt, ◌==◌, if◌then◌else◌}
use Rattle.std.specs.List.{list_any}
use Rattle.rvc_io.specs.Count.{last_count}

-- the numbers of the calls that are to fail, how many calls were made, and how many of them failed
pub record CallCount : Type 0 where
  pub failing : List ℕ
  pub made : ℕ
  pub faults : ℕ

-- a count after one more, which stands still at its last value
abbrev pub one_more : ℕ → ℕ
one_more n = if nat_lt n last_count then n + 1 else n

-- the number of the next call is among those that are to fail
abbrev pub is_listed : CallCount → Bool
is_listed c = list_any (λ k. k == one_more c.made) c.failing

-- one call more was made, and it failed or not
abbrev pub after_call : Bool → CallCount → CallCount
after_call failed c =
    record {
      failing = c.failing;
      made = one_more c.made;
      faults = if failed then one_more c.faults
          else c.faults;
    }
