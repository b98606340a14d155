-- Counts up to one more than the limit of a list.
use Rattle.std.proofs.Common.{◌≡◌, ℕ, zero, suc, ◌*◌, ◌+◌, ◌<◌, ◌≤◌, ◌⊎◌, inl, inr, Bool, true, false, refl, sym, ap, ◌∙◌, arith}
use Rattle.std.proofs.Math.Nat.{suc-mul, mul_assoc, mul_comm}
use Rattle.std.specs.Prelude.{nat_le, ◌&&◌, if◌then◌else◌}
use Rattle.std.proofs.lemmas.Bool.Decides.{nat_tests}
use Rattle.cal_model.specs.Value.{Kind, ListKind, scalars_of_kind}
use Rattle.cal_model.specs.Kinding.{Fine, Broken, list_of_kind}
use Rattle.rvc_base.specs.Rules.{list_too_long}
use Rattle.const_env.specs.Fitting.{capped}

below : (n : ℕ) → nat_le n 16384 ≡ true → n ≤ 16384
below n e = grind (arith, nat_tests)

above : (n : ℕ) → nat_le n 16384 ≡ false → 16384 < n
above n e = grind (arith, nat_tests)

le-true : (n : ℕ) → n ≤ 16384 → nat_le n 16384 ≡ true
le-true n h = grind (arith, nat_tests)

le-false : (n : ℕ) → 16384 < n → nat_le n 16384 ≡ false
le-false n h = grind (arith, nat_tests)

pub capped_low : (n : ℕ) → n ≤ 16384 → capped n ≡ n
capped_low n h = ap (λ b. if b then n else 16385) (le-true n h)

pub capped_high : (n : ℕ) → 16384 < n → capped n ≡ 16385
capped_high n h = ap (λ b. if b then n else 16385) (le-false n h)

split : (n : ℕ) (b : Bool) → nat_le n 16384 ≡ b → (n ≤ 16384) ⊎ (16384 < n)
split n true e = inl (below n e)
split n false e = inr (above n e)

-- a product is as much more than the limit with as without its factor cut
product : (n s : ℕ) → (s ≤ 16384) ⊎ (16384 < s) → capped (n * capped s) ≡ capped (n * s)
product n s (inl h) = ap (λ k. capped (n * k)) (capped_low s h)
product zero s (inr h) =
    let one : 0 * capped s ≡ 0 = omega arith in
    let two : 0 * s ≡ 0 = omega arith in
    ap capped (one ∙ sym two)
product (suc n) s (inr h) =
    ap (λ k. capped (suc n * k)) (capped_high s h)
    ∙ capped_high (suc n * 16385) (much n 16385 (omega arith))
    ∙ sym (capped_high (suc n * s) (much n s h))
  where
    much : (n s : ℕ) → 16384 < s → 16384 < suc n * s
    much n s h = let whole : suc n * s ≡ n * s + s = suc-mul n s in omega arith

pub capped_product : (n s : ℕ) → capped (n * capped s) ≡ capped (n * s)
capped_product n s = product n s (split s (nat_le s 16384) refl)

-- .. in whichever order
pub capped_thrice : (k s n : ℕ) → capped (k * (s * n)) ≡ capped (capped (k * capped s) * n)
capped_thrice k s n =
    ap capped (sym (mul_assoc k s n))
    ∙ ap capped (mul_comm (k * s) n)
    ∙ sym (capped_product n (k * s))
    ∙ ap (λ m. capped (n * m)) (sym (capped_product k s))
    ∙ ap capped (mul_comm n (capped (k * capped s)))

pub capped_once : (n : ℕ) → capped (capped n) ≡ capped n
capped_once n = go (split n (nat_le n 16384) refl)
  where
    go : (n ≤ 16384) ⊎ (16384 < n) → capped (capped n) ≡ capped n
    go (inl h) = ap capped (capped_low n h)
    go (inr h) = ap capped (capped_high n h) ∙ capped_high 16385 (omega arith) ∙ sym (capped_high n h)

-- a list of too many items is one of one more than the limit
pub capped_list : (n : ℕ) (k : Kind) (at : ℕ) → list_of_kind (capped n) k at ≡ list_of_kind n k at
capped_list n k at = go (split n (nat_le n 16384) refl)
  where
    go : (n ≤ 16384) ⊎ (16384 < n) → list_of_kind (capped n) k at ≡ list_of_kind n k at
    go (inl h) = ap (λ m. list_of_kind m k at) (capped_low n h)
    go (inr h) =
        ap (λ m. list_of_kind m k at) (capped_high n h)
        ∙ ap (λ b. if b && nat_le (16385 * scalars_of_kind k) 16384 then Fine (ListKind 16385 k) else Broken list_too_long at) (le-false 16385 (omega arith))
        ∙ sym (ap (λ b. if b && nat_le (n * scalars_of_kind k) 16384 then Fine (ListKind n k) else Broken list_too_long at) (le-false n h))
