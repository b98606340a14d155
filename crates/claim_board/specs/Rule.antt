-- The rule of the board, over its counter, its slots at home and what each pass knows.
-- Not trusted: no promise is read with it.
use Rattle.std.specs.Prelude.{◌≡◌, ℕ, ◌+◌, ◌<◌, ◌≤◌, List, [], ◌∷◌, length, Bool, Some, slice_get, vec_capacity}
use mathlib.Core.Option.{some, none}
use mathlib.Core.Option as maybe
use lib.ListN.{get_elem?}
use Rattle.atomic_table.specs.Table.{State}
use Rattle.claim_board.specs.declared.slot.Slot.{Slot}
use Rattle.claim_board.specs.declared.slot.Slot.TheVariants.{Empty, Holds, Room}
use Rattle.claim_board.specs.declared.view.View.{View}
use Rattle.claim_board.specs.Pieces.{IsWorked}
use Rattle.claim_board.specs.Counts.{total, times, past, once_below}

-- a view that was joined to another one
abbrev pub blank : {P : Type 0} → View P
blank = record { passes = 0; put = []; drawn = []; home = [] }

-- an empty list that has memory for so many pieces
abbrev pub IsRoom : {P : Type 0} → ℕ → Slot P → Type 0
IsRoom places (Room list) = (list.items ≡ []) × (places ≤ vec_capacity list)
IsRoom places Empty = ⊥
IsRoom places (Holds piece) = ⊥

module _ {P X : Type 0} (state : P → X) (marked : P → Bool) (gives : X → X → Type 0) (put : List P)
    (homes : List (maybe.Option (Slot P))) where
  -- the slot of this place is at home, with a piece that is worked from its start
  abbrev pub IsBack : ℕ → Type 0
  IsBack place = (piece : P) × (get_elem? homes place ≡ some (some (Holds piece)))
      × IsWorked state marked gives put place piece

  -- what is true of each view
  pub record Knows (v : View P) : Type 0 where
    -- it stands for no pass exactly if it was joined to another one
    pub spent : v.passes ≡ 0 → v ≡ blank
    -- else it has the pieces as they were put
    pub starts : 0 < v.passes → v.put ≡ put
    -- it brought home what it drew
    pub drew_first : (n : ℕ) → times n v.home ≤ times n v.drawn
    -- the slot of a place that it drew is out with it, until it brings it home
    pub out : (place : ℕ) → place < length put → 0 < times place v.drawn → times place v.home ≡ 0
        → get_elem? homes place ≡ some none
    pub back : (place : ℕ) → place < length put → 0 < times place v.home → IsBack place
    -- it drew no more numbers past the last place than it stands for passes
    pub few_past : past (length put) v.drawn ≤ v.passes

pub record Kept {P X : Type 0} (state : P → X) (marked : P → Bool) (gives : X → X → Type 0)
    (put : List P) (passes : ℕ) (s : State (Slot P) (View P)) : Type 0 where
  -- the one word is the counter
  pub counter : ℕ
  pub word : s.words ≡ counter ∷ []
  -- each place has a slot, and the room has one behind them
  pub slots : length s.homes ≡ length put + 1
  pub room : (list : Slot P) × (get_elem? s.homes (length put) ≡ some (some list))
      × IsRoom (length put) list
  -- the views stand for the passes that the board was opened with
  pub shared_out : total (λ v. v.passes) s.views ≡ passes
  pub each_view : (seat : ℕ) (v : View P) → get_elem? s.views seat ≡ some v
      → Knows state marked gives put s.homes v
  -- each number below the counter was drawn by one view, once, and no other number was drawn
  pub drawn_once : (n : ℕ) → total (λ v. times n v.drawn) s.views ≡ once_below counter n
  -- a place from the counter on has its slot at home, with the piece that was put there
  pub waiting : (place : ℕ) (piece : P) → counter ≤ place → slice_get put place ≡ Some piece
      → get_elem? s.homes place ≡ some (some (Holds piece))
  -- the counter has passed the last place by the numbers that were drawn past it
  pub bounded : counter ≤ length put + total (λ v. past (length put) v.drawn) s.views
