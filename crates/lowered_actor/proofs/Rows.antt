-- The table of candidates, row by row.
use Rattle.std.proofs.Common.{◌≡◌, ℕ, zero, suc, ◌+◌, ◌<◌, ◌≤◌, ◌⊎◌, inl, inr, List, [], ◌∷◌, ◌++◌, length, refl, sym, ap, subst, ◌∙◌, arith, Some}
use Rattle.std.specs.Prelude.{slice_get, slice_index_or}
use Rattle.std.proofs.lemmas.Bool.{cases_lt}
use Rattle.std.proofs.lemmas.List.{length-append}
use Rattle.std.proofs.lemmas.Option.{slice_get_read}
use Rattle.schedule_fsm.specs.Automaton.{Automaton}
use Rattle.lowered_actor.specs.declared.candidates.Candidates.{Candidates}
use Rattle.lowered_actor.specs.Candidates.{eligible_among, IsRow, AreRows}

still-there : {A : Type 0} (xs ys : List A) (k : ℕ) (x : A) → slice_get xs k ≡ Some x → slice_get (xs ++ ys) k ≡ Some x
still-there [] ys k x h = absurd (grind arith)
still-there (y ∷ xs) ys zero x h = h
still-there (y ∷ xs) ys (suc k) x h = still-there xs ys k x h

last-there : {A : Type 0} (xs : List A) (x : A) → slice_get (xs ++ x ∷ []) (length xs) ≡ Some x
last-there [] x = refl
last-there (y ∷ xs) x = last-there xs x

pub rows-more : (fsm : Automaton) (line : List ℕ) (n : ℕ) (rows : List Candidates) (row : Candidates) → AreRows fsm line n rows
    → row.actions.items ≡ eligible_among fsm n line → AreRows fsm line (n + 1) (rows ++ row ∷ [])
rows-more fsm line n rows row are is = record {
  size = length-append rows (row ∷ []) ∙ ap (λ k. k + 1) are.size;
  each = λ s low. by s (cases_lt s n) low;
}
  where
    by : (s : ℕ) → (s < n) ⊎ (n ≤ s) → s < n + 1 → IsRow fsm line (rows ++ row ∷ []) s
    by s (inl less) low =
        let old = are.each s less in
        record { row = old.row; there = still-there rows (row ∷ []) s old.row old.there; is = old.is }
    by s (inr more) low =
        let same : n ≡ s = omega (arith, more, low) in
        subst (IsRow fsm line (rows ++ row ∷ [])) same
        (record { row = row; there = subst (λ k. slice_get (rows ++ row ∷ []) k ≡ Some row) are.size (last-there rows row); is = is })

same-row : (a b : Candidates) → ◌≡◌ {A = List ℕ} a.actions.items a.actions.items → Some a ≡ Some b → a ≡ b
same-row a b h e = cc

pub row-at : (fsm : Automaton) (line : List ℕ) (n : ℕ) (rows : List Candidates) (s : ℕ) (row : Candidates) → AreRows fsm line n rows → s < n
    → row ≡ slice_index_or rows s row → row.actions.items ≡ eligible_among fsm s line
row-at fsm line n rows s row are low is =
    let old = are.each s low in
    let here : slice_get rows s ≡ Some row = slice_get_read rows n s row (sym are.size) low is in
    let same : old.row ≡ row = same-row old.row row refl (sym old.there ∙ here) in
    subst (λ r. r.actions.items ≡ eligible_among fsm s line) same old.is
