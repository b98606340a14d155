-- The first tokens of a port, and whether an action has its tokens.
use Rattle.std.proofs.Common.{◌≡◌, ℕ, zero, suc, ◌+◌, ◌<◌, ◌≤◌, ◌⊎◌, inl, inr, ℤ, Bool, true, false, ◌&&◌, List, [], ◌∷◌, length, take, refl, sym, ap, subst, ◌∙◌, arith, None, Some}
use Rattle.std.specs.Prelude.{nat_le, slice_get}
use Rattle.std.proofs.lemmas.Bool.{leb-true, le-leb, cases_lt}
use Rattle.std.specs.Prelude.{slice_index_or}
use Rattle.std.proofs.lemmas.List.{get_or_default}
use Rattle.std.proofs.lemmas.Option.{get_or_from_slice_get, slice_get_within}
use Rattle.lowered_actor.specs.Actor.{Action, Actor, number_on}
use Rattle.lowered_actor.specs.Facts.{Fits, IsLowered}
use Rattle.lowered_actor.specs.Meaning.{has_on_first, need, taken}
use Rattle.guard_select.specs.Selecting.{first_of}

pub take-within : {A : Type 0} (n : ℕ) (xs : List A) (k : ℕ) → k < length (take n xs) → k < length xs
take-within zero xs k low = absurd (omega (arith, low))
take-within (suc n) [] k low = absurd (omega (arith, low))
take-within (suc n) (x ∷ xs) zero low = omega arith
take-within (suc n) (x ∷ xs) (suc k) low = let h = take-within n xs k (omega (arith, low)) in omega (arith, h)

pub take-same : {A : Type 0} (n : ℕ) (xs : List A) (k : ℕ) → k < length (take n xs) → slice_get xs k ≡ slice_get (take n xs) k
take-same zero xs k low = absurd (omega (arith, low))
take-same (suc n) [] k low = absurd (omega (arith, low))
take-same (suc n) (x ∷ xs) zero low = refl
take-same (suc n) (x ∷ xs) (suc k) low = take-same n xs k (omega (arith, low))

le-no : (n m : ℕ) → m < n → nat_le n m ≡ false
le-no n m low = by (nat_le n m) refl
  where
    by : (b : Bool) → nat_le n m ≡ b → nat_le n m ≡ false
    by true e = absurd (let h = leb-true n m e in omega (arith, h, low))
    by false e = e

and-false : (b : Bool) → (b && false) ≡ false
and-false true = refl
and-false false = refl

pub has-more : (needed : ℕ → ℕ) (tokens : ℕ → List ℤ) (p : ℕ) → has_on_first needed tokens p ≡ true → needed p ≤ length (tokens p)
    → has_on_first needed tokens (p + 1) ≡ true
has-more needed tokens p so_far here =
    subst (λ n. has_on_first needed tokens n ≡ true) (let same : suc p ≡ p + 1 = omega arith in same)
    (ap (λ b. b && nat_le (needed p) (length (tokens p))) so_far ∙ le-leb (needed p) (length (tokens p)) here)

pub lacks-on : (needed : ℕ → ℕ) (tokens : ℕ → List ℤ) (n p : ℕ) → p < n → length (tokens p) < needed p → has_on_first needed tokens n ≡ false
lacks-on needed tokens zero p low few = absurd (omega (arith, low))
lacks-on needed tokens (suc n) p low few = by (lacks-on needed tokens n p) (cases_lt p n)
  where
    by : (p < n → length (tokens p) < needed p → has_on_first needed tokens n ≡ false) → (p < n) ⊎ (n ≤ p)
        → (has_on_first needed tokens n && nat_le (needed n) (length (tokens n))) ≡ false
    by earlier (inl less) = ap (λ b. b && nat_le (needed n) (length (tokens n))) (earlier less few)
    by earlier (inr more) =
        let same : p ≡ n = omega (arith, low, more) in
        ap (λ b. has_on_first needed tokens n && b) (le-no (needed n) (length (tokens n)) (subst (λ q. length (tokens q) < needed q) same few))
        ∙ and-false (has_on_first needed tokens n)

pub need-is : (actor : Actor) (a p : ℕ) (action : Action) → slice_get actor.actions a ≡ Some action → need actor a p ≡ number_on action.needs p
need-is actor a p action there = ap (λ o. elim o [ None ↦ 0 | Some act ↦ number_on act.needs p ]) there

pub taken-is : (actor : Actor) (tokens : ℕ → List ℤ) (a : ℕ) (action : Action) → slice_get actor.actions a ≡ Some action
    → first_of action.needs tokens ≡ taken actor tokens a
taken-is actor tokens a action there = sym (pointwise (λ p. ap (λ n. take n (tokens p)) (need-is actor a p action there)))
  where
    pointwise : ((p : ℕ) → taken actor tokens a p ≡ first_of action.needs tokens p) → taken actor tokens a ≡ first_of action.needs tokens
    pointwise h = λ i p. h p i

-- the number that is read for a port
pub read-number : (actor : Actor) (a : ℕ) (action : Action) (p n : ℕ) → IsLowered actor → slice_get actor.actions a ≡ Some action → p < actor.ins
    → n ≡ slice_index_or action.needs p n → n ≡ number_on action.needs p
read-number actor a action p n lowered there low is =
    let fits : Fits actor action = subst (Fits actor) (get_or_from_slice_get actor.actions a action action there) (lowered.fits.each a action (slice_get_within actor.actions a action there)) in
    let size : length action.needs ≡ actor.ins = fits.needs in
    is ∙ get_or_default action.needs p n 0 (omega (arith, low, size))
