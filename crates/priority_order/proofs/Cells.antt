-- Cells of a table, and what a write to one of them leaves.
use Rattle.std.proofs.Common.{◌≡◌, ℕ, ◌+◌, ◌*◌, ◌<◌, Bool, true, false, List, length, get_or, set, take, replicate, [], ◌∷◌, ◌++◌, Contains, ◌⊎◌, ⊎_elim, inl, inr, refl, sym, ap, ◌∙◌, arith}
use Rattle.std.specs.Prelude.{◌↔◌, IsTrue}
use Rattle.std.proofs.lemmas.Bool.{cases_eq, false≢true}
use Rattle.std.proofs.lemmas.List.{get_or-set_same, get_or-set_other, get_or-replicate, take_more}
use Rattle.std.proofs.lemmas.List.Elements.{Contains-append_left, Contains-push, Contains-push_cases}
use Rattle.std.proofs.lemmas.Nat.{mul-add-lt, same_from_place}
use Rattle.priority_order.specs.Ranking.{cell}

pub place_in : (n row column : ℕ) → row < n → column < n → row * n + column < n * n
place_in n row column in_rows in_columns = mul-add-lt row n column n in_rows in_columns

-- a write to another cell
cell_elsewhere : (n : ℕ) (cells : List Bool) (row column a b : ℕ) → column < n → b < n → (a ≡ row → b ≡ column → ⊥) → cell n (set cells (row * n + column) true) a b ≡ cell n cells a b
cell_elsewhere n cells row column a b in_columns b_in apart =
    get_or-set_other cells (row * n + column) (a * n + b) true false
    (λ same. let both : (a ≡ row) × (b ≡ column) = same_from_place a b row column n b_in in_columns same in apart both.0 both.1)

-- a cell is set once it was, or is the one that is written
pub cell-set : (n : ℕ) (cells : List Bool) (row column a b : ℕ) → length cells ≡ n * n → row < n → column < n → b < n → IsTrue (cell n (set cells (row * n + column) true) a b) ↔ (IsTrue (cell n cells a b) ⊎ ((a ≡ row) × (b ≡ column)))
cell-set n cells row column a b size in_rows in_columns b_in =
    let inside : row * n + column < length cells = let below = place_in n row column in_rows in_columns in omega (arith, below, size) in
    let written : IsTrue (cell n (set cells (row * n + column) true) row column) = get_or-set_same cells (row * n + column) true false inside in
    let other : (a ≡ row → b ≡ column → ⊥) → IsTrue (cell n (set cells (row * n + column) true) a b) ↔ (IsTrue (cell n cells a b) ⊎ ((a ≡ row) × (b ≡ column))) =
    λ apart. let same : cell n (set cells (row * n + column) true) a b ≡ cell n cells a b = cell_elsewhere n cells row column a b in_columns b_in apart in
    (λ e. inl (sym same ∙ e), λ h. ⊎_elim (λ e. same ∙ e) (λ both. absurd (apart both.0 both.1)) h) in
    ⊎_elim (λ (r : a ≡ row). ⊎_elim (λ (c : b ≡ column). (λ e. inr (r, c), λ h. rw (r, c) written)) (λ c. other (λ _ e. c e)) (cases_eq b column))
    (λ r. other (λ e _. r e)) (cases_eq a row)

-- no cell of a fresh table is set
pub cell-replicate : (n a b : ℕ) → a < n → b < n → ¬ IsTrue (cell n (replicate (n * n) false) a b)
cell-replicate n a b a_in b_in e =
    false≢true (sym (get_or-replicate (n * n) (a * n + b) false false (place_in n a b a_in b_in)) ∙ e)

-- ---- the declared pairs
-- each cell is set if and only if its pair is among these
abbrev pub Marks : List (ℕ × ℕ) → ℕ → List Bool → Type 0
Marks pairs n cells = (a b : ℕ) → a < n → b < n → IsTrue (cell n cells a b) ↔ Contains pairs (a, b)

pub marks_none : (n : ℕ) → Marks [] n (replicate (n * n) false)
marks_none n a b a_in b_in = (λ e. absurd (cell-replicate n a b a_in b_in e), λ h. absurd (omega (arith, h.1)))

pub marks_more : (pairs : List (ℕ × ℕ)) (i n : ℕ) (cells : List Bool) → i < length pairs → length cells ≡ n * n → (get_or pairs i (0, 0)).0 < n → (get_or pairs i (0, 0)).1 < n → Marks (take i pairs) n cells → Marks (take (i + 1) pairs) n (set cells ((get_or pairs i (0, 0)).0 * n + (get_or pairs i (0, 0)).1) true)
marks_more pairs i n cells inside size row_in column_in so_far a b a_in b_in =
    let pair = get_or pairs i (0, 0) in
    let new = cell-set n cells pair.0 pair.1 a b size row_in column_in b_in in
    let more : take (i + 1) pairs ≡ take i pairs ++ pair ∷ [] = take_more pairs i (0, 0) inside in
    let last : (a ≡ pair.0) × (b ≡ pair.1) → pair ≡ (a, b) = λ both. rw (both.0, both.1) refl in
    rw more (
      λ e. ⊎_elim (λ before. Contains-append_left (take i pairs) (pair ∷ []) (a, b) ((so_far a b a_in b_in).0 before)) (λ here. rw (← last here) (Contains-push (take i pairs) pair)) (new.0 e),
      λ h. new.1 (⊎_elim (λ earlier. inl ((so_far a b a_in b_in).1 earlier)) (λ (here : pair ≡ (a, b)). inr (sym (ap (λ p. p.0) here), sym (ap (λ p. p.1) here))) (Contains-push_cases (take i pairs) pair (a, b) h)),
    )
