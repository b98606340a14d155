-- Arithmetic on numbers of the language: the value, or the trap that comes in its place.
-- Trusted: part of what a promise means.
use Rattle.std.specs.Prelude.{ℕ, ℤ, pos, negsuc, ◌+ℤ◌, ◌-ℤ◌, ◌*ℤ◌, neg_ℤ, int_div, int_rem, int_lt, unsigned_abs, ◌^◌, Bool, not, if◌then◌else◌, ◌==◌, nat_le}
use Rattle.std.specs.Int.{int_bit_and, int_bit_or, int_bit_xor, int_bit_not, int_shr}
use Rattle.std.specs.Ordering.{int_eq}
use Rattle.rvc_base.specs.declared.trap.Trap.{Trap}
use Rattle.rvc_base.specs.declared.trap.Trap.TheVariants.{Overflow, DivideByZero, ShiftRange}
use Rattle.rvc_base.specs.Width.{num_width, is_num, max_shift}

-- what an operation gives
pub data Computed : Type 0 where
  Gives : ℤ → Computed
  Traps : Trap → Computed

-- a whole number, if it is a number of the language
abbrev pub whole : ℤ → Computed
whole z = if is_num z then Gives z else Traps Overflow

abbrev pub add : ℤ → ℤ → Computed
add a b = whole (a +ℤ b)

abbrev pub sub : ℤ → ℤ → Computed
sub a b = whole (a -ℤ b)

abbrev pub mul : ℤ → ℤ → Computed
mul a b = whole (a *ℤ b)

abbrev pub neg : ℤ → Computed
neg a = whole (neg_ℤ a)

-- rounded towards zero
abbrev pub div : ℤ → ℤ → Computed
div a b = if unsigned_abs b == 0 then Traps DivideByZero else whole (int_div a b)

-- what that quotient leaves
abbrev pub rem : ℤ → ℤ → Computed
rem a b = if unsigned_abs b == 0 then Traps DivideByZero else Gives (int_rem a b)

-- an operation by a count of a shift, which is neither below 0 nor above the greatest count
abbrev pub by_count : ℤ → (ℕ → Computed) → Computed
by_count (pos n) f = if nat_le n max_shift then f n else Traps ShiftRange
by_count (negsuc n) f = Traps ShiftRange

abbrev pub shl : ℤ → ℤ → Computed
shl a b = by_count b (λ n. whole (a *ℤ pos (2 ^ n)))

-- rounded towards the lower number
abbrev pub shr : ℤ → ℤ → Computed
shr a b = by_count b (λ n. Gives (int_shr a n))

-- bit by bit, in two's complement
abbrev pub bit_and : ℤ → ℤ → ℤ
bit_and a b = int_bit_and num_width a b

abbrev pub bit_or : ℤ → ℤ → ℤ
bit_or a b = int_bit_or num_width a b

abbrev pub bit_xor : ℤ → ℤ → ℤ
bit_xor a b = int_bit_xor num_width a b

abbrev pub bit_not : ℤ → ℤ
bit_not a = int_bit_not num_width a

-- a truth value as a number
abbrev pub truth : Bool → ℤ
truth b = if b then pos 1 else pos 0

abbrev pub is_equal : ℤ → ℤ → Bool
is_equal a b = int_eq a b

abbrev pub is_below : ℤ → ℤ → Bool
is_below a b = int_lt a b

-- a number other than 0 stands for true
abbrev pub is_true : ℤ → Bool
is_true a = not (unsigned_abs a == 0)
