-- The width of numbers: every bound that follows from it, by name.
-- Trusted: part of what a promise means.
use Rattle.std.specs.Prelude.{ℕ, Bool, ℤ, pos, negsuc, ◌-◌, ◌^◌, FitsSigned, nat_lt}
use Rattle.std.specs.Int.{Width, w128}

-- the width of a number of the language
abbrev pub num_width : Width
num_width = w128

-- how many numbers of the language are below 0; as many are from 0 on
abbrev pub num_bound : ℕ
num_bound = 2 ^ 127

-- a whole number that a number of the language can be
abbrev pub IsNum : ℤ → Type 0
IsNum z = FitsSigned num_width z

-- the same, as a test
abbrev pub is_num : ℤ → Bool
is_num (pos n) = nat_lt n num_bound
is_num (negsuc n) = nat_lt n num_bound

-- the least and the greatest number
abbrev pub least_num : ℤ
least_num = negsuc (num_bound - 1)

abbrev pub greatest_num : ℤ
greatest_num = pos (num_bound - 1)

-- the greatest size of a number type, in bits
abbrev pub max_size : ℕ
max_size = 64

-- the size of a number type if none is written, in bits
abbrev pub default_size : ℕ
default_size = 32

-- the greatest count of a shift
abbrev pub max_shift : ℕ
max_shift = 127

-- the most bytes that one token takes
abbrev pub max_token_bytes : ℕ
max_token_bytes = 8
