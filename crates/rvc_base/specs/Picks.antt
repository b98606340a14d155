-- Which instances a policy picks in a round. Rounds are numbered from 1.
-- Trusted: part of what a promise means.
use Rattle.std.specs.Prelude.{ℕ, zero, suc, ◌+◌, ◌-◌, ◌*◌, ◌/◌, ◌%◌, ◌^◌, Bool, true, List, map, ◌==◌, nat_le}
use Rattle.std.specs.List.{range_with_len}
use Rattle.rvc_base.specs.declared.round_kind.RoundKind.{RoundKind}
use Rattle.rvc_base.specs.declared.round_kind.RoundKind.TheVariants.{All, Turn, Seed}

-- how many numbers a seed's sequence has to choose from
abbrev pub seed_numbers : ℕ
seed_numbers = 2 ^ 64

-- the number after x in a seed's sequence
abbrev pub number_after : ℕ → ℕ
number_after x = (x * 6364136223846793005 + 1442695040888963407) % seed_numbers

-- the number at a place of a seed's sequence; the seed is at place 0
unfoldable pub number_at : ℕ → ℕ → ℕ
number_at seed zero = seed
number_at seed (suc place) = number_after (number_at seed place)

-- the highest bit of a number of a sequence is 1
abbrev pub has_highest_bit : ℕ → Bool
has_highest_bit x = nat_le (seed_numbers / 2) x

-- instance k of n is picked in round t
abbrev pub is_picked : RoundKind → ℕ → ℕ → ℕ → Bool
is_picked All n t k = true
is_picked Turn n t k = k == (t - 1) % n
is_picked (Seed seed) n t k = has_highest_bit (number_at seed ((t - 1) * n + k + 1))

-- which of n instances are picked in round t
abbrev pub picks : RoundKind → ℕ → ℕ → List Bool
picks kind n t = map (is_picked kind n t) (range_with_len 0 n)
