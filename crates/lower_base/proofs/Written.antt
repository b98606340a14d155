-- What is written into cells.
use Rattle.std.proofs.Common.{◌≡◌, ℕ, zero, suc, ◌+◌, ◌<◌, ◌≤◌, ◌⊎◌, inl, inr, ⊎_elim, ℤ, List, [], ◌∷◌, length, sym, ap, ◌∙◌, subst, Some, arith}
use Rattle.std.specs.Prelude.{slice_get}
use Rattle.lower_base.specs.declared.names.Seat.TheVariants.{Cell}
use Rattle.lower_base.specs.Held.{Keeps, StandAt}

-- of the cells, only the size cells from c on may have changed
pub record Written (c size : ℕ) (before after : List ℤ) : Type 0 where
  pub length_same : length after ≡ length before
  pub cell : (d : ℕ) → (d < c) ⊎ (c + size ≤ d) → slice_get after d ≡ slice_get before d

pub written_keeps : (c size n m low high : ℕ) (before after : List ℤ) → n ≤ c → c + size ≤ m → Written c size before after → Keeps n m low high before after
written_keeps c size n m low high before after le ge w = record {
  size = w.length_same;
  cell = λ d free apart. w.cell d (⊎_elim (λ (a : d < n). inl (omega (arith, a, le))) (λ (a : m ≤ d). inr (omega (arith, a, ge))) free);
}

-- a single value in cells
pub stand_one : (c : ℕ) (tokens : ℕ → List ℤ) (cells zs : List ℤ) (z : ℤ) → zs ≡ z ∷ [] → slice_get cells c ≡ Some z → StandAt (Cell c) tokens cells zs
stand_one c tokens cells zs z e f = subst (λ ys. StandAt (Cell c) tokens cells ys) (sym e) (only c tokens cells z f)
  where
    only : (c : ℕ) (tokens : ℕ → List ℤ) (cells : List ℤ) (z : ℤ) → slice_get cells c ≡ Some z → StandAt (Cell c) tokens cells (z ∷ [])
    only c tokens cells z f zero y g = let same : c ≡ c + 0 = omega arith in let is : z ≡ y = cc in subst (λ d. slice_get cells d ≡ Some y) same (f ∙ ap Some is)
    only c tokens cells z f (suc k) y g = cc
