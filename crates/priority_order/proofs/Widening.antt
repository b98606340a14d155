-- How the table grows by the chains that pass one number.
use Rattle.std.proofs.Common.{◌≡◌, ℕ, ◌+◌, ◌*◌, ◌<◌, Bool, true, false, List, length, set, ◌⊎◌, ⊎_elim, inl, inr, sym, ◌∙◌, subst, arith}
use Rattle.std.specs.Prelude.{◌↔◌, IsTrue}
use Rattle.std.proofs.lemmas.Bool.{cases_lt, false≢true}
use Rattle.priority_order.specs.Ranking.{cell}
use Rattle.priority_order.proofs.Cells.{cell-set}

-- the first columns of a row are widened
abbrev pub RowWidened : ℕ → ℕ → ℕ → ℕ → List Bool → List Bool → Type 0
RowWidened n row through columns old new = (a b : ℕ) → a < n → b < n → IsTrue (cell n new a b) ↔ (IsTrue (cell n old a b) ⊎ ((a ≡ row) × (b < columns) × IsTrue (cell n old through b)))

module _ (n row through column : ℕ) (old now : List Bool) (through_in : through < n) (column_in : column < n) (so_far : RowWidened n row through column old now) where
  -- the cell that is read is as it was
  read : IsTrue (cell n now through column) → IsTrue (cell n old through column)
  read e = ⊎_elim (λ was. was) (λ added. absurd (omega (arith, added.1))) ((so_far through column through_in column_in).0 e)

  pub row_skips : (cell n now through column ≡ false) → RowWidened n row through (column + 1) old now
  row_skips unset a b a_in b_in = (
    λ e. ⊎_elim (λ was. inl was) (λ added. inr (added.0, omega (arith, added.1), added.2)) ((so_far a b a_in b_in).0 e),
    λ h. (so_far a b a_in b_in).1 (⊎_elim (λ was. inl was)
        (λ added. ⊎_elim (λ (less : b < column). inr (added.0, less, added.2))
        (λ above. let here : b ≡ column = omega (arith, above, added.1) in
        let set' : IsTrue (cell n old through column) = subst (λ k. IsTrue (cell n old through k)) here added.2 in
        let set'' : IsTrue (cell n now through column) = (so_far through column through_in column_in).1 (inl set') in
        absurd (false≢true (sym unset ∙ set''))) (cases_lt b column)) h),
  )

  pub row_widens : length now ≡ n * n → row < n → IsTrue (cell n now through column) → RowWidened n row through (column + 1) old (set now (row * n + column) true)
  row_widens size row_in is_set a b a_in b_in =
      let new = cell-set n now row column a b size row_in column_in b_in in (
        λ e. ⊎_elim (λ before. ⊎_elim (λ was. inl was) (λ added. inr (added.0, omega (arith, added.1), added.2)) ((so_far a b a_in b_in).0 before))
            (λ here. inr (here.0, omega (arith, here.1), subst (λ k. IsTrue (cell n old through k)) (sym here.1) (read is_set))) (new.0 e),
        λ h. new.1 (⊎_elim (λ was. inl ((so_far a b a_in b_in).1 (inl was)))
            (λ added. ⊎_elim (λ (less : b < column). inl ((so_far a b a_in b_in).1 (inr (added.0, less, added.2))))
            (λ above. inr (added.0, omega (arith, above, added.1))) (cases_lt b column)) h),
      )

-- the first rows are widened
abbrev pub Widened : ℕ → ℕ → ℕ → List Bool → List Bool → Type 0
Widened n through rows old new = (a b : ℕ) → a < n → b < n → IsTrue (cell n new a b) ↔ (IsTrue (cell n old a b) ⊎ ((a < rows) × IsTrue (cell n old a through) × IsTrue (cell n old through b)))

module _ (n through row : ℕ) (old now : List Bool) (through_in : through < n) (row_in : row < n) (so_far : Widened n through row old now) where
  -- the cell that is read is as it was
  read_row : IsTrue (cell n now row through) → IsTrue (cell n old row through)
  read_row e = ⊎_elim (λ was. was) (λ added. absurd (omega (arith, added.0))) ((so_far row through row_in through_in).0 e)

  pub skips : (cell n now row through ≡ false) → Widened n through (row + 1) old now
  skips unset a b a_in b_in = (
    λ e. ⊎_elim (λ was. inl was) (λ added. inr (omega (arith, added.0), added.1, added.2)) ((so_far a b a_in b_in).0 e),
    λ h. (so_far a b a_in b_in).1 (⊎_elim (λ was. inl was)
        (λ added. ⊎_elim (λ (less : a < row). inr (less, added.1, added.2))
        (λ above. let here : a ≡ row = omega (arith, above, added.0) in
        let set' : IsTrue (cell n old row through) = subst (λ k. IsTrue (cell n old k through)) here added.1 in
        let set'' : IsTrue (cell n now row through) = (so_far row through row_in through_in).1 (inl set') in
        absurd (false≢true (sym unset ∙ set''))) (cases_lt a row)) h),
  )

  pub widens : (new : List Bool) → ((a b : ℕ) → a < n → b < n → IsTrue (cell n new a b) ↔ (IsTrue (cell n now a b) ⊎ ((a ≡ row) × IsTrue (cell n now through b)))) → IsTrue (cell n now row through) → Widened n through (row + 1) old new
  widens new next is_set a b a_in b_in =
      let through_is : IsTrue (cell n now through b) → IsTrue (cell n old through b) =
      λ e. ⊎_elim (λ was. was) (λ added. added.2) ((so_far through b through_in b_in).0 e) in (
        λ e. ⊎_elim (λ before. ⊎_elim (λ was. inl was) (λ added. inr (omega (arith, added.0), added.1, added.2)) ((so_far a b a_in b_in).0 before))
            (λ here. inr (omega (arith, here.0), subst (λ k. IsTrue (cell n old k through)) (sym here.0) (read_row is_set), through_is here.1)) ((next a b a_in b_in).0 e),
        λ h. (next a b a_in b_in).1 (⊎_elim (λ was. inl ((so_far a b a_in b_in).1 (inl was)))
            (λ added. ⊎_elim (λ (less : a < row). inl ((so_far a b a_in b_in).1 (inr (less, added.1, added.2))))
            (λ above. inr (omega (arith, above, added.0), (so_far through b through_in b_in).1 (inl added.2))) (cases_lt a row)) h),
      )
