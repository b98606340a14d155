-- What each kind of step makes of a view, and what it tells.
-- Trusted for `Seated` and `places_of` alone: part of what a promise means.
use Rattle.std.specs.Prelude.{◌≡◌, ℕ, ◌+◌, ◌-◌, ◌<◌, ◌≤◌, List, [], ◌∷◌, ◌++◌, length, Some, slice_get}
use Rattle.atomic_table.specs.Table.{Me, Step, rest}
use Rattle.claim_board.specs.declared.slot.Slot.{Slot}
use Rattle.claim_board.specs.declared.slot.Slot.TheVariants.{Holds}
use Rattle.claim_board.specs.declared.view.View.{View}
use Rattle.claim_board.specs.Counts.{times}
pub use Rattle.claim_board.specs.Rule.{blank}

-- a seat: its view, and the slots that are out with it
abbrev pub Seated : Type 0 → Type 0
Seated P = Me (Slot P) (View P)

module _ {P : Type 0} where
  -- the view that stands for all passes, before any number was drawn
  abbrev pub first_view : List P → ℕ → View P
  first_view put passes = record { passes = passes; put = put; drawn = []; home = [] }

  -- the places of the slots that are out
  abbrev pub places_of : List (ℕ × Slot P) → List ℕ
  places_of [] = []
  places_of (x ∷ xs) = x.0 ∷ places_of xs

  -- the view with one number more that it drew
  abbrev pub with_number : View P → ℕ → View P
  with_number v n =
      record { passes = v.passes; put = v.put; drawn = v.drawn ++ n ∷ []; home = v.home }

  -- the view with one place more that it brought home
  abbrev pub with_home : View P → List ℕ → View P
  with_home v places =
      record { passes = v.passes; put = v.put; drawn = v.drawn; home = v.home ++ places }

  -- a number was drawn, which is above each that this view drew before; if it is a place, its slot is out with the
  -- piece that was put there
  abbrev pub drew : Step (Slot P) → Seated P → ℕ → Seated P → Type 0
  drew st m n m' =
      (m'.0 ≡ with_number m.0 n)
      × ((k : ℕ) → 0 < times k m.0.drawn → k < n)
      × ((piece : P) → slice_get m.0.put n ≡ Some piece → m'.1 ≡ (n, Holds piece) ∷ m.1)
      × (length m.0.put ≤ n → m'.1 ≡ m.1)

  -- the slot that was taken came home
  abbrev pub brought : Step (Slot P) → Seated P → ℕ → Seated P → Type 0
  brought st m n m' = m' ≡ (with_home m.0 (places_of m.1), rest m.1)

  -- nothing changed
  abbrev pub looked : Step (Slot P) → Seated P → ℕ → Seated P → Type 0
  looked st m n m' = m' ≡ m

  -- the view of a seat from which one pass was cut off, and the view of that pass
  abbrev pub less_one : View P → View P
  less_one v = record { passes = v.passes - 1; put = v.put; drawn = v.drawn; home = v.home }

  abbrev pub newcomer : View P → View P
  newcomer v = record { passes = 1; put = v.put; drawn = []; home = [] }

  -- what two views know together
  abbrev pub joined : View P → View P → View P
  joined v w =
      record {
        passes = v.passes + w.passes;
        put = v.put;
        drawn = v.drawn ++ w.drawn;
        home = v.home
            ++ w.home;
      }
