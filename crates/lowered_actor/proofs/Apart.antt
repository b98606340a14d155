-- Saved cells that are different ones.
use Rattle.std.proofs.Common.{◌≡◌, ℕ, zero, suc, Bool, true, false, ◌||◌, List, [], ◌∷◌, length, refl, sym, ap, ◌∙◌, arith, Some}
use Rattle.std.specs.Prelude.{◌==◌, slice_get}
use Rattle.std.proofs.lemmas.Bool.Decides.{nat_tests}
use Rattle.lowered_actor.specs.declared.parts.StateCell.{StateCell}
use Rattle.lowered_actor.specs.Facts.{AreApart}
use Rattle.lowered_actor.specs.Straight.{is_saved}

or-true : (b : Bool) → (b || true) ≡ true
or-true true = refl
or-true false = refl

-- a cell that stands among these is one of them
saved-at : (xs : List StateCell) (k : ℕ) (one : StateCell) → slice_get xs k ≡ Some one → is_saved xs one.cell ≡ true
saved-at [] k one there = cc
saved-at (x ∷ xs) zero one there =
    let same : x ≡ one = cc in
    let e : (x.cell == one.cell) ≡ true = let cells : x.cell ≡ one.cell = ap (λ y. y.cell) same in grind (arith, nat_tests, cells) in
    ap (λ b. b || is_saved xs one.cell) e
saved-at (x ∷ xs) (suc k) one there = ap (λ b. (x.cell == one.cell) || b) (saved-at xs k one there) ∙ or-true (x.cell == one.cell)

pub apart-none : (xs : List StateCell) → length xs ≡ 0 → AreApart xs
apart-none [] none = λ j k one other here there same. cc
apart-none (x ∷ xs) none = absurd (omega (arith, none))

-- one more, which isn't among those behind it
pub apart-more : (x : StateCell) (xs : List StateCell) → is_saved xs x.cell ≡ false → AreApart xs → AreApart (x ∷ xs)
apart-more x xs new apart = by
  where
    clash : {A : Type 0} (k : ℕ) (one other : StateCell) → Some x ≡ Some one → slice_get xs k ≡ Some other → one.cell ≡ other.cell → A
    clash k one other here there same =
        let first : x ≡ one = cc in
        let found : is_saved xs x.cell ≡ true = ap (is_saved xs) (ap (λ y. y.cell) first ∙ same) ∙ saved-at xs k other there in
        let e : true ≡ false = sym found ∙ new in cc

    by : AreApart (x ∷ xs)
    by zero zero one other here there same = refl
    by zero (suc k) one other here there same = clash k one other here there same
    by (suc j) zero one other here there same = clash j other one there here (sym same)
    by (suc j) (suc k) one other here there same = ap suc (apart j k one other here there same)
