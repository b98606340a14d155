-- Steps of code that fills cells.
use Rattle.std.proofs.Common.{◌≡◌, ℕ, ◌+◌, ◌<◌, ◌≤◌, ◌⊎◌, inl, ⊎_elim, ℤ, pos, List, ◌∷◌, length, refl, ap, ◌∙◌, Option, None, Some, arith}
use Rattle.std.specs.Prelude.{get_or, slice_get, slice_set}
use Rattle.std.proofs.lemmas.List.{length-set}
use Rattle.std.proofs.lemmas.Option.{slice_get-get_or, slice_get_within}
use Rattle.rvc_base.specs.declared.scalar.Scalar.{Scalar}
use Rattle.rvc_base.specs.declared.trap.Trap.{Trap}
use Rattle.code_ir.specs.declared.instr.Instr.{Instr}
use Rattle.code_ir.specs.declared.instr.Instr.TheVariants as op
use Rattle.code_ir.specs.Effect.{Leaves, effect, stored as in_cell}
use Rattle.code_ir.specs.Running.{State, Reaches, go_on, here, after}
use Rattle.code_ir.proofs.Marks.{get-other}
use Rattle.lower_base.specs.declared.names.Seat.{Seat}
use Rattle.lower_base.specs.declared.names.Seat.TheVariants.{Cell, Tokens}
use Rattle.lower_base.specs.Following.{CutsOff}
use Rattle.lower_base.specs.Held.{AreApart, Keeps, SeatIsBelow, StandAt}
use Rattle.lower_base.specs.Placed.{World, state}
use Rattle.lower_base.proofs.Doing.{IsStraight}
use Rattle.lower_base.proofs.Keeping.{keeps_wider, keeps_join, seat_stands, apart_first}
use Rattle.lower_base.proofs.Runs.{ends_join, obeys}
use Rattle.lower_base.proofs.Storing.{store_leaves}
use Rattle.expr_lower.specs.Filling.{take_instr}
use Rattle.expr_lower.proofs.Moving.{AreMoved, AreTaken, copied_are, copy_leaves, take_leaves, taken_are}

-- ---- cells

pub set_keeps : (n m c low high : ℕ) (cells : List ℤ) (z : ℤ) → n ≤ c → c < m → Keeps n m low high cells (slice_set cells c z)
set_keeps n m c low high cells z le less = record {
  size = length-set cells c z;
  cell = λ d free apart. get-other cells c d z (λ e. ⊎_elim (λ (a : d < n). absurd (omega (arith, a, e, le))) (λ (a : m ≤ d). absurd (omega (arith, a, e, less))) free);
}

-- a number goes from the stack to a cell that is there
pub store_reaches : (w : World) (p c : ℕ) (t : Option Scalar) (stack : List ℤ) (frames : List ℕ) (cells : List ℤ) (left : ℕ) (z : ℤ) → c < length cells → slice_get w.code.instrs p ≡ Some (op.Store c t)
    → Reaches w.code w.tokens (state p (z ∷ stack) frames cells left) (state (p + 1) stack frames (slice_set cells c (in_cell t z)) left)
store_reaches w p c t stack frames cells left z less at =
    let s : State = state p (z ∷ stack) frames cells left in
    after (obeys w.code w.tokens s (op.Store c t) at ∙ ap (go_on s) (store_leaves c t w.tokens stack cells z (get_or cells c (pos 0)) (slice_get-get_or cells c (pos 0) less))) here

-- an instruction that goes on to the next place
pub straight_reaches : (w : World) (p : ℕ) (i : Instr) (stack later : List ℤ) (frames : List ℕ) (cells now : List ℤ) (left : ℕ) → IsStraight i → slice_get w.code.instrs p ≡ Some i → effect w.tokens i stack cells ≡ Leaves later now
    → Reaches w.code w.tokens (state p stack frames cells left) (state (p + 1) later frames now left)
straight_reaches w p i stack later frames cells now left straight at e =
    let s : State = state p stack frames cells left in
    after (obeys w.code w.tokens s i at ∙ straight w.code w.tokens s ∙ ap (go_on s) e) here

-- numbers that stand below the cells that were used still stand
pub stands_still : {n m : ℕ} (w : World) (c k : ℕ) (before now zs : List ℤ) → Keeps n m w.low w.high before now → c + length zs ≤ n → c + length zs ≤ k → AreApart c k w.low w.high → StandAt (Cell c) w.tokens before zs → StandAt (Cell c) w.tokens now zs
stands_still {n = n} {m = m} w c k before now zs keeps le room free stands =
    seat_stands (Cell c) n m w.low w.high w.tokens before now zs keeps le (apart_first c (c + length zs) k w.low w.high room free) stands

-- ---- traps

pub cut_on : (w : World) (n k c m : ℕ) (s : State) (d : Trap) → c ≤ n → k ≤ m → CutsOff w n k s d → CutsOff w c m s d
cut_on w n k c m s d le ge cut = record { cells = cut.cells; ends = cut.ends; keeps = keeps_wider c m le ge cut.keeps }

pub cut_later : (w : World) (n m : ℕ) (s t : State) (d : Trap) → Reaches w.code w.tokens s t → Keeps n m w.low w.high s.cells t.cells → CutsOff w n m t d → CutsOff w n m s d
cut_later w n m s t d r keeps cut = record { cells = cut.cells; ends = ends_join r cut.ends; keeps = keeps_join keeps cut.keeps }

-- ---- a list that stands at a seat

pub take_straight : (c size : ℕ) (seat : Seat) → IsStraight (take_instr c size seat)
take_straight c size (Cell s) code tokens st = refl
take_straight c size (Tokens port first step) code tokens st = refl

-- the numbers of a seat stand in the cells from c on too, and no other cell has changed
pub record Takes (c size : ℕ) (seat : Seat) (tokens : ℕ → List ℤ) (stack cells zs : List ℤ) : Type 0 where
  pub now : List ℤ
  pub leaves : effect tokens (take_instr c size seat) stack cells ≡ Leaves stack now
  pub same_size : length now ≡ length cells
  pub stands : StandAt (Cell c) tokens now zs
  pub others : (d : ℕ) → (d < c) ⊎ (c + size ≤ d) → slice_get now d ≡ slice_get cells d

pub takes : (c size : ℕ) (seat : Seat) (tokens : ℕ → List ℤ) (stack cells zs : List ℤ) → length zs ≡ size → StandAt seat tokens cells zs → SeatIsBelow c size seat → c + size ≤ length cells → Takes c size seat tokens stack cells zs
takes c size (Cell s) tokens stack cells zs many stands below room =
    let a : AreMoved (in_cell None) (λ j. slice_get cells (s + j)) c size cells _ = copied_are None c s size cells (inl below) room in
    record {
      now = _;
      leaves = copy_leaves None c s size tokens stack cells room (omega (arith, below, room));
      same_size = a.same_size;
      stands = λ j z e. a.there j z (let within = slice_get_within zs j z e in omega (arith, within, many)) (stands j z e);
      others = a.others;
    }
takes c size (Tokens port first step) tokens stack cells zs many stands below room =
    let a : AreTaken (tokens port) c first step size cells = taken_are (tokens port) c first step size cells
    (λ j less. (get_or zs j (pos 0), stands j (get_or zs j (pos 0)) (slice_get-get_or zs j (pos 0) (omega (arith, less, many))))) room
    in
    record {
      now = a.now;
      leaves = take_leaves c port first step size tokens stack cells room a;
      same_size = a.moved.same_size;
      stands = λ j z e. a.moved.there j z (let within = slice_get_within zs j z e in omega (arith, within, many)) (stands j z e);
      others = a.moved.others;
    }
