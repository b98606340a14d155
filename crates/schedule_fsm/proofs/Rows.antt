-- The rows of a table that is made row by row.
use Rattle.std.proofs.Common.{◌≡◌, ℕ, ◌+◌, ◌*◌, ◌<◌, Bool, false, List, Option, None, length, get_or, map, ◌++◌, ⊎_elim, refl, ap, ◌∙◌, arith, length-append}
use Rattle.std.proofs.lemmas.Bool.{cases_lt}
use Rattle.std.proofs.lemmas.List.{get_or_append_left, get_or-append-add, get_or-map}
use Rattle.std.proofs.lemmas.Nat.{mul-add-lt}
use Rattle.schedule_fsm.specs.Automaton.{entry}
use Rattle.schedule_fsm.specs.Free.{stay}

-- the place of a state and an action is below the rows before a later state
pub place_below : (columns rows state action : ℕ) → state < rows → action < columns → state * columns + action < rows * columns
place_below columns rows state action in_row in_column =
    omega (arith, mul-add-lt state columns action rows in_row in_column)

pub size_more : (columns rows : ℕ) (table row : List (Option ℕ)) → length table ≡ rows * columns → length row ≡ columns → length (table ++ row) ≡ (rows + 1) * columns
size_more columns rows table row size width = omega (arith, length-append table row)

-- so many rows stand, each as its state wants it
abbrev pub Stays : List Bool → ℕ → List (Option ℕ) → Type 0
Stays free rows table = (state action : ℕ) → state < rows → action < length free → entry (length free) table state action ≡ stay state (get_or free action false)

pub stays_more : (free : List Bool) (rows : ℕ) (table : List (Option ℕ)) → length table ≡ rows * length free → Stays free rows table → Stays free (rows + 1) (table ++ map (stay rows) free)
stays_more free rows table size below state action in_rows in_columns =
    let row : List (Option ℕ) = map (stay rows) free in
    let earlier : state < rows → entry (length free) (table ++ row) state action ≡ stay state (get_or free action false) =
    λ less. let place : state * length free + action < length table = omega (arith, place_below (length free) rows state action less in_columns) in
    get_or_append_left table row None (state * length free + action) place ∙ below state action less in_columns in
    let last : state ≡ rows → entry (length free) (table ++ row) state action ≡ stay state (get_or free action false) =
    λ same. let place : state * length free + action ≡ length table + action = omega (arith, size, ap (λ k. k * length free) same) in
    rw (place, get_or-append-add table row action None, get_or-map (stay rows) free action false None in_columns, same) refl in
    ⊎_elim earlier (λ above. last (omega arith)) (cases_lt state rows)
