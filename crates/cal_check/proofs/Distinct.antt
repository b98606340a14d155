-- Parts of which none stands twice.
use Rattle.std.proofs.Common.{◌≡◌, ℕ, zero, suc, ◌<◌, Bool, true, false, List, [], ◌∷◌, ◌++◌, length, map, refl, sym, ap, ◌∙◌, arith}
use Rattle.std.specs.Prelude.{Contains, if◌then◌else◌, ◌==◌}
use Rattle.std.specs.Str.{bytes_eq}
use Rattle.rvc_base.specs.declared.refusal.Rule.{Rule}
use Rattle.cal_model.specs.Sound.{AreDistinct}
use Rattle.cal_model.proofs.KindNames.{text-same}
use Rattle.cal_check.specs.Violations.{Keyed, Violation, violation, is_met, twice}

abbrev keys : {K : Type 0} → List (Keyed K) → List K
keys xs = map (λ x. x.key) xs

not-both : (b : Bool) → b ≡ true → b ≡ false → ⊥
not-both b p q = let e : true ≡ false = sym p ∙ q in grind arith

-- the first part isn't met before, and behind it it is met
first-unmet : (b : Bool) (rule : Rule) (at : ℕ) (rest more : List Violation) → (if b then violation rule at ++ rest else more) ≡ [] → (b ≡ false) × (more ≡ [])
first-unmet true rule at rest more h = absurd (cc)
first-unmet false rule at rest more h = (refl, h)

either-unmet : (b c : Bool) → (if b then true else c) ≡ false → (b ≡ false) × (c ≡ false)
either-unmet true c h = absurd (cc)
either-unmet false c h = (refl, h)

-- each part that stands here isn't among those that were met
unmet : {K : Type 0} (same : K → K → Bool) (rule : Rule) (met : List K) (xs : List (Keyed K)) → twice same rule met xs ≡ [] → (y : K) → Contains (keys xs) y → is_met same y met ≡ false
unmet same rule met [] h y (k, inside, e) = absurd (omega arith)
unmet same rule met (x ∷ xs) h y (zero, inside, e) =
    let p = first-unmet (is_met same x.key met) rule x.at (twice same rule met xs) (twice same rule (x.key ∷ met) xs) h in
    ap (λ z. is_met same z met) (sym e) ∙ p.0
unmet same rule met (x ∷ xs) h y (suc k, inside, e) =
    let p = first-unmet (is_met same x.key met) rule x.at (twice same rule met xs) (twice same rule (x.key ∷ met) xs) h in
    let below : k < length (keys xs) = omega arith in
    (either-unmet (same y x.key) (is_met same y met) (unmet same rule (x.key ∷ met) xs p.1 y (k, below, e))).1

pub distinct : {K : Type 0} (same : K → K → Bool) (itself : (y : K) → same y y ≡ true) (rule : Rule) (met : List K) (xs : List (Keyed K)) → twice same rule met xs ≡ [] → AreDistinct (keys xs)
distinct same itself rule met [] h = tt
distinct same itself rule met (x ∷ xs) h =
    let p = first-unmet (is_met same x.key met) rule x.at (twice same rule met xs) (twice same rule (x.key ∷ met) xs) h in (
      (λ c. let u = either-unmet (same x.key x.key) (is_met same x.key met) (unmet same rule (x.key ∷ met) xs p.1 x.key c) in not-both (same x.key x.key) (itself x.key) u.0),
      distinct same itself rule (x.key ∷ met) xs p.1,
    )

number-same : (n : ℕ) → (n == n) ≡ true
number-same n = grind arith

-- keys that are texts, and keys that are numbers
pub distinct-texts : (rule : Rule) (xs : List (Keyed (List ℕ))) → twice bytes_eq rule [] xs ≡ [] → AreDistinct (keys xs)
distinct-texts rule xs h = distinct bytes_eq text-same rule [] xs h

pub distinct-numbers : (rule : Rule) (xs : List (Keyed ℕ)) → twice (λ p q. p == q) rule [] xs ≡ [] → AreDistinct (keys xs)
distinct-numbers rule xs h = distinct (λ p q. p == q) number-same rule [] xs h
