-- A board and its passes, as contracts see them.
-- Trusted but for `board_at`, `Gathered` and `IsSeatOf`: part of what a promise means.
use Rattle.std.specs.Prelude.{◌≡◌, ℕ, ◌<◌, ◌≤◌, List, [], ◌∷◌, ◌++◌, length, Bool, true, false, Option, Some, None, slice_get}
use Rattle.std.specs.List.{Any}
use Rattle.atomic_table.specs.Seated.{TableId}
use Rattle.claim_board.specs.declared.slot.Slot.{Slot}
use Rattle.claim_board.specs.Counts.{total, times, once_below}
use Rattle.claim_board.specs.Steps.{Seated, places_of}

-- which board it is, the pieces as they were put on it, by place, and for how many passes it was opened
pub record BoardSeen (P : Type 0) : Type 0 where
  pub id : TableId
  pub put : List P
  pub passes : ℕ

-- the board that it was made with, the places that it drew, in the order in which it drew them, the place whose
-- piece it holds, and whether it was answered that no piece is left
pub record PassSeen (P : Type 0) : Type 0 where
  pub id : TableId
  pub put : List P
  pub drawn : List ℕ
  pub held : Option ℕ
  pub ended : Bool

module _ {P : Type 0} where
  -- the pass was made with this board
  abbrev pub IsPassOf : BoardSeen P → PassSeen P → Type 0
  IsPassOf board pass = (pass.id ≡ board.id) × (pass.put ≡ board.put)

  -- a pass that drew nothing yet
  abbrev pub new_pass : BoardSeen P → PassSeen P
  new_pass board = record { id = board.id; put = board.put; drawn = []; held = None; ended = false }

  -- the pass after it drew this place, whose piece it then holds
  abbrev pub drew_place : PassSeen P → ℕ → PassSeen P
  drew_place pass place =
      record {
        id = pass.id;
        put = pass.put;
        drawn = pass.drawn ++ place ∷ [];
        held = Some place;
        ended = pass.ended;
      }

  -- the pass after it was answered that no piece is left
  abbrev pub ended_pass : PassSeen P → PassSeen P
  ended_pass pass =
      record { id = pass.id; put = pass.put; drawn = pass.drawn; held = pass.held; ended = true }

  -- the pass after it gave back what it held
  abbrev pub gave_back : PassSeen P → PassSeen P
  gave_back pass =
      record { id = pass.id; put = pass.put; drawn = pass.drawn; held = None; ended = pass.ended }

  -- how often this place was drawn by one of the passes
  abbrev pub times_drawn : ℕ → List (PassSeen P) → ℕ
  times_drawn place passes = total (λ pass. times place pass.drawn) passes

  -- the places below some number were drawn by one of the passes, once, and no other place was drawn
  abbrev pub EachDrawnOnce : List P → List (PassSeen P) → Type 0
  EachDrawnOnce put passes = (count : ℕ) × (count ≤ length put)
      × ((place : ℕ) → times_drawn place passes ≡ once_below count place)

  -- what the fact says of the piece at each place
  abbrev pub AtEachPlace : (ℕ → P → Type 0) → List P → Type 0
  AtEachPlace fact pieces = (place : ℕ) (piece : P) → slice_get pieces place ≡ Some piece
      → fact place piece

  -- the place of the slot that was taken last
  abbrev pub held_in : List (ℕ × Slot P) → Option ℕ
  held_in [] = None
  held_in (x ∷ xs) = Some x.0

  abbrev pub pass_seen : TableId → Seated P → Bool → PassSeen P
  pass_seen id me ended =
      record {
        id = id;
        put = me.0.put;
        drawn = me.0.home ++ places_of me.1;
        held = held_in me.1;
        ended = ended;
      }

  -- the numbers that it drew are the places that it brought home and the one that is out with it, and once it has ended one more, which is no place
  abbrev pub Drew : List ℕ → List P → List ℕ → List (ℕ × Slot P) → Bool → Type 0
  Drew drawn put home hand false = drawn ≡ home ++ places_of hand
  Drew drawn put home hand true = (hand ≡ [])
      × ((n : ℕ) × (length put ≤ n) × (drawn ≡ home ++ n ∷ []))

  -- what is true of each pass
  pub record IsPass (me : Seated P) (ended : Bool) : Type 0 where
    pub one : me.0.passes ≡ 1
    pub hand : length me.1 ≤ 1
    pub drew : Drew me.0.drawn me.0.put me.0.home me.1 ended
    pub places : (n : ℕ) → 0 < times n (me.0.home ++ places_of me.1) → n < length me.0.put

  abbrev pub board_at : TableId → List P → ℕ → BoardSeen P
  board_at id put passes = record { id = id; put = put; passes = passes }

  -- a seat with no slot out that knows what these passes know
  pub record Gathered (put : List P) (passes : List (PassSeen P)) (me : Seated P) : Type 0 where
    pub hand : me.1 ≡ []
    pub count : me.0.passes ≡ length passes
    pub starts : me.0.put ≡ put
    pub home : (place : ℕ) → times place me.0.home ≡ times_drawn place passes
    pub places : (place : ℕ) → 0 < times place me.0.home → place < length put
    pub drawn : (place : ℕ) → place < length put → times place me.0.drawn ≡ times_drawn place passes
    pub ended : Any (λ pass. pass.ended ≡ true) passes → (n : ℕ) × (length put ≤ n)
        × (0 < times n me.0.drawn)

  -- the seat of this pass
  abbrev pub IsSeatOf : TableId → Seated P → PassSeen P → Type 0
  IsSeatOf id me pass = (ended : Bool) × (pass_seen id me ended ≡ pass) × IsPass me ended
