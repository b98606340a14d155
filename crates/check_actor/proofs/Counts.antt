-- Counts up to one more than the limit of an actor's scalars.
use Rattle.std.proofs.Common.{◌≡◌, ℕ, zero, suc, ◌*◌, ◌+◌, ◌<◌, ◌≤◌, ◌⊎◌, inl, inr, Bool, true, false, refl, sym, ap, ◌∙◌, arith}
use Rattle.std.proofs.Math.Nat.{suc-mul}
use Rattle.std.specs.Prelude.{nat_le, if◌then◌else◌}
use Rattle.std.proofs.lemmas.Bool.Decides.{nat_tests}
use Rattle.check_actor.specs.Phases.{capped}

below : (n : ℕ) → nat_le n 65536 ≡ true → n ≤ 65536
below n e = grind (arith, nat_tests)

above : (n : ℕ) → nat_le n 65536 ≡ false → 65536 < n
above n e = grind (arith, nat_tests)

le_true : (n : ℕ) → n ≤ 65536 → nat_le n 65536 ≡ true
le_true n h = grind (arith, nat_tests)

le_false : (n : ℕ) → 65536 < n → nat_le n 65536 ≡ false
le_false n h = grind (arith, nat_tests)

pub capped_low : (n : ℕ) → n ≤ 65536 → capped n ≡ n
capped_low n h = ap (λ b. if b then n else 65537) (le_true n h)

pub capped_high : (n : ℕ) → 65536 < n → capped n ≡ 65537
capped_high n h = ap (λ b. if b then n else 65537) (le_false n h)

split : (n : ℕ) (b : Bool) → nat_le n 65536 ≡ b → (n ≤ 65536) ⊎ (65536 < n)
split n true e = inl (below n e)
split n false e = inr (above n e)

-- a product is as much more than the limit with as without its factor cut
product : (n s : ℕ) → (s ≤ 65536) ⊎ (65536 < s) → capped (n * capped s) ≡ capped (n * s)
product n s (inl h) = ap (λ k. capped (n * k)) (capped_low s h)
product zero s (inr h) =
    let one : 0 * capped s ≡ 0 = omega arith in
    let two : 0 * s ≡ 0 = omega arith in
    ap capped (one ∙ sym two)
product (suc n) s (inr h) =
    ap (λ k. capped (suc n * k)) (capped_high s h)
    ∙ capped_high (suc n * 65537) (much n 65537 (omega arith))
    ∙ sym (capped_high (suc n * s) (much n s h))
  where
    much : (n s : ℕ) → 65536 < s → 65536 < suc n * s
    much n s h = let whole : suc n * s ≡ n * s + s = suc-mul n s in omega arith

pub capped_product : (n s : ℕ) → capped (n * capped s) ≡ capped (n * s)
capped_product n s = product n s (split s (nat_le s 65536) refl)

-- .. and a sum
sum : (n s : ℕ) → (s ≤ 65536) ⊎ (65536 < s) → capped (n + capped s) ≡ capped (n + s)
sum n s (inl h) = ap (λ k. capped (n + k)) (capped_low s h)
sum n s (inr h) =
    ap (λ k. capped (n + k)) (capped_high s h) ∙ capped_high (n + 65537) (omega arith) ∙ sym (capped_high (n + s) (omega (arith, h)))

sum_first : (n s : ℕ) → (n ≤ 65536) ⊎ (65536 < n) → capped (capped n + s) ≡ capped (n + s)
sum_first n s (inl h) = ap (λ k. capped (k + s)) (capped_low n h)
sum_first n s (inr h) =
    ap (λ k. capped (k + s)) (capped_high n h) ∙ capped_high (65537 + s) (omega arith) ∙ sym (capped_high (n + s) (omega (arith, h)))

pub capped_three : (n s rest : ℕ) → capped (capped (n + capped s) + rest) ≡ capped (n + (s + rest))
capped_three n s rest =
    let same : n + (s + rest) ≡ n + s + rest = omega arith in
    ap (λ k. capped (k + rest)) (sum n s (split s (nat_le s 65536) refl))
    ∙ sum_first (n + s) rest (split (n + s) (nat_le (n + s) 65536) refl)
    ∙ ap capped (sym same)

pub capped_once : (n : ℕ) → capped (capped n) ≡ capped n
capped_once n = go (split n (nat_le n 65536) refl)
  where
    go : (n ≤ 65536) ⊎ (65536 < n) → capped (capped n) ≡ capped n
    go (inl h) = ap capped (capped_low n h)
    go (inr h) = ap capped (capped_high n h) ∙ capped_high 65537 (omega arith) ∙ sym (capped_high n h)
