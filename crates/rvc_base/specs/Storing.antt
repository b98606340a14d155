-- Storing: what a variable, a port or a parameter of a type holds once a number is stored in it.
-- Trusted: part of what a promise means.
use Rattle.std.specs.Prelude.{◌≡◌, ℕ, ℤ, pos, ◌+ℤ◌, ◌-ℤ◌, ◌≤ℤ◌, ◌<ℤ◌, ◌-◌, ◌^◌, ◌≤◌, ◌⊎◌, if◌then◌else◌, nat_lt, ◌==◌, unsigned_abs}
use Rattle.std.specs.Int.{int_rem_euclid}
use Rattle.rvc_base.specs.declared.scalar.Scalar.{Scalar}
use Rattle.rvc_base.specs.declared.scalar.Scalar.TheVariants.{Bool as Truth, Int, Uint}
use Rattle.rvc_base.specs.Width.{max_size}

-- a size that a type may have
abbrev pub IsSize : Scalar → Type 0
IsSize Truth = Unit {0}
IsSize (Int n) = (1 ≤ n) × (n ≤ max_size)
IsSize (Uint n) = (1 ≤ n) × (n ≤ max_size)

-- the rest of v by 2 to the power of n, which is never below 0
abbrev pub low_part : ℕ → ℤ → ℕ
low_part n v = unsigned_abs (int_rem_euclid v (pos (2 ^ n)))

-- the number below 2 ^ n, read in two's complement of n bits
abbrev pub in_twos_complement : ℕ → ℕ → ℤ
in_twos_complement n r = if nat_lt r (2 ^ (n - 1)) then pos r else pos r -ℤ pos (2 ^ n)

abbrev pub conv : Scalar → ℤ → ℤ
conv Truth v = if unsigned_abs v == 0 then pos 0 else pos 1
conv (Int n) v = in_twos_complement n (low_part n v)
conv (Uint n) v = pos (low_part n v)

-- the numbers of a type's range
abbrev pub InRange : Scalar → ℤ → Type 0
InRange Truth v = (v ≡ pos 0) ⊎ (v ≡ pos 1)
InRange (Int n) v = (pos 0 ≤ℤ (v +ℤ pos (2 ^ (n - 1)))) × (v <ℤ pos (2 ^ (n - 1)))
InRange (Uint n) v = (pos 0 ≤ℤ v) × (v <ℤ pos (2 ^ n))
