-- Euclid's algorithm, step by step.
use Rattle.std.proofs.Common.{◌≡◌, ℕ, zero, suc, ◌+◌, ◌-◌, ◌*◌, ◌/◌, ◌<◌, ◌≤◌, sym, ap, ◌∙◌, ⊎_elim, arith, mul_comm}
use Rattle.std.proofs.Math.Nat.{mul-div_cancel_left, mul-le-mul_left}
use Rattle.std.proofs.lemmas.Nat.{mul-le}
use Rattle.std.proofs.lemmas.Bool.{cases_lt}
use Rattle.balanced_rates.specs.Fraction.{IsLowest}

pub cancels : (y a b : ℕ) → 0 < y → y * a ≡ y * b → a ≡ b
cancels y a b some e = sym (mul-div_cancel_left a some) ∙ (ap (λ z. z / y) e ∙ mul-div_cancel_left b some)

cancels_le : (y a b : ℕ) → 0 < y → y * a ≤ y * b → a ≤ b
cancels_le y a b some h =
    ⊎_elim (λ less. let above : y * (b + 1) ≤ y * a = mul-le-mul_left y (omega (arith, less)) in absurd (omega arith))
    (λ within. within) (cases_lt b a)

-- a product is no 0 if its factors are none, and the other way round
pub product_is_some : (a b : ℕ) → 1 ≤ a → 1 ≤ b → 1 ≤ a * b
product_is_some a b a_some b_some = mul-le 1 1 a b a_some b_some

pub factor_is_some : (a b : ℕ) → 1 ≤ a * b → 1 ≤ a
factor_is_some zero b h = absurd (omega arith)
factor_is_some (suc a) b h = omega arith

pub lowest_of_whole : (x y whole : ℕ) → 0 < x → 0 < y → x ≡ y * whole → IsLowest x y whole 1
lowest_of_whole x y whole x_some y_some e = record {
  over = factor_is_some whole y (omega arith);
  under = omega arith;
  same = omega arith;
  multiples = λ t u h. (t, omega arith, let times : x * t ≡ y * whole * t = ap (λ z. z * t) e in let both : y * (whole * t) ≡ y * u = omega arith in let is : whole * t ≡ u = cancels y (whole * t) u y_some both in omega arith);
}

rest_is_even : (x y whole rest t u left : ℕ) → x ≡ y * whole + rest → u ≡ whole * t + left → x * t ≡ y * u → y * left ≡ rest * t
rest_is_even x y whole rest t u left e u_is h =
    let times : x * t ≡ (y * whole + rest) * t = ap (λ z. z * t) e in
    let both : y * u ≡ y * (whole * t + left) = ap (λ z. y * z) u_is in
    omega arith

rest_is_multiple : (whole p q t u left s : ℕ) → u ≡ whole * t + left → left ≡ s * q → t ≡ s * p → u ≡ s * (whole * p + q)
rest_is_multiple whole p q t u left s u_is left_is t_is =
    let many : whole * t ≡ whole * (s * p) = ap (λ z. whole * z) t_is in omega arith

rest_multiples : (x y whole rest p q t u : ℕ) → 0 < y → x ≡ y * whole + rest → IsLowest y rest p q → x * t ≡ y * u → (left : ℕ) × (u ≡ whole * t + left)
rest_multiples x y whole rest p q t u y_some e inner h =
    let times : x * t ≡ (y * whole + rest) * t = ap (λ z. z * t) e in
    let within : whole * t ≤ u = cancels_le y (whole * t) u y_some (omega arith) in
    (u - whole * t, omega arith)

pub lowest_of_rest : (x y whole rest p q : ℕ) → 0 < y → x ≡ y * whole + rest → IsLowest y rest p q → IsLowest x y (whole * p + q) p
lowest_of_rest x y whole rest p q y_some e inner = record {
  over = let p_some = inner.over in let q_some = inner.under in omega arith;
  under = inner.over;
  same = let times : x * p ≡ (y * whole + rest) * p = ap (λ z. z * p) e in let known = inner.same in omega arith;
  multiples = λ t u h.
      let left = rest_multiples x y whole rest p q t u y_some e inner h in
      let found = inner.multiples left.0 t (rest_is_even x y whole rest t u left.0 e left.1 h) in
      (found.0, found.2, rest_is_multiple whole p q t u left.0 found.0 left.1 found.1 found.2);
}

-- its numbers are no greater than those that it is made of
pub lowest_is_within : (x y p q : ℕ) → 0 < x → IsLowest x y p q → (p ≤ x) × (q ≤ y)
lowest_is_within x y p q x_some lowest =
    let found : (s : ℕ) × (y ≡ s * q) × (x ≡ s * p) = lowest.multiples y x (mul_comm x y) in
    let s = found.0 in
    let y_is : y ≡ s * q = found.1 in
    let x_is : x ≡ s * p = found.2 in
    let some : 1 ≤ s = factor_is_some s p (omega arith) in
    let p_within : 1 * p ≤ s * p = mul-le 1 p s p some (omega arith) in
    let q_within : 1 * q ≤ s * q = mul-le 1 q s q some (omega arith) in
    (omega arith, omega arith)
