-- How many numbers are left of a range.
use Rattle.std.proofs.Common.{◌≡◌, ◌≢◌, ℕ, suc, ◌+◌, ℤ, pos, ◌+ℤ◌, ◌-ℤ◌, ◌≤ℤ◌, Bool, true, false, refl, sym, ap, ◌∙◌, arith}
use Rattle.std.specs.Prelude.{int_lt, unsigned_abs, if◌then◌else◌}
use Rattle.std.proofs.lemmas.Int.{ints}
use Rattle.cal_model.specs.Expression.{span}

counted_by : (b : Bool) (n : ℕ) → b ≡ false → (if b then 0 else suc n) ≡ suc n
counted_by true n h = cc
counted_by false n h = refl

none_by : (b : Bool) (n : ℕ) → b ≡ true → (if b then 0 else suc n) ≡ 0
none_by true n h = refl
none_by false n h = cc

not_below : (a b : ℤ) (t : Bool) → int_lt b a ≡ t → a ≤ℤ b → int_lt b a ≡ false
not_below a b true e h = absurd (omega (arith, ints))
not_below a b false e h = e

pub span_none : (a b : ℤ) → int_lt b a ≡ true → span a b ≡ 0
span_none a b h = none_by (int_lt b a) (unsigned_abs (b -ℤ a)) h

pub span_some : (a b : ℤ) → a ≤ℤ b → span a b ≡ suc (unsigned_abs (b -ℤ a))
span_some a b h = counted_by (int_lt b a) (unsigned_abs (b -ℤ a)) (not_below a b (int_lt b a) refl h)

pub span_next : (a b : ℤ) → (a +ℤ pos 1) ≤ℤ b → span a b ≡ suc (span (a +ℤ pos 1) b)
span_next a b h =
    let l : a ≤ℤ b = omega (arith, ints) in
    let is : unsigned_abs (b -ℤ a) ≡ unsigned_abs (b -ℤ (a +ℤ pos 1)) + 1 = omega (arith, ints) in
    let one : unsigned_abs (b -ℤ a) ≡ suc (unsigned_abs (b -ℤ (a +ℤ pos 1))) = omega arith in
    span_some a b l ∙ ap suc one ∙ sym (ap suc (span_some (a +ℤ pos 1) b h))

pub span_last : (a : ℤ) → span a a ≡ 1
span_last a =
    let l : a ≤ℤ a = omega (arith, ints) in
    let is : unsigned_abs (a -ℤ a) ≡ 0 = omega (arith, ints) in
    span_some a a l ∙ ap suc is

pub next_fits : (a b : ℤ) → a ≤ℤ b → a ≢ b → (a +ℤ pos 1) ≤ℤ b
next_fits a b h e = omega (arith, ints)
