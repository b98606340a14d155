-- The states that runs of admitted code come by, and how far each is from its end at most.
-- Trusted: part of what a promise means.
use Rattle.std.specs.Prelude.{◌≡◌, ℕ, suc, ◌+◌, ◌-◌, ◌*◌, ◌^◌, ◌<◌, ◌≤◌, List, [], ◌∷◌, length, Option, None, Some, slice_get}
use Rattle.code_ir.specs.declared.instr.Instr.{Instr}
use Rattle.code_ir.specs.declared.instr.Instr.TheVariants.{Turn}
use Rattle.code_ir.specs.Code.{Code, routine_of, results_of}
use Rattle.code_ir.specs.Running.{State, Next, Goes, Over, Lacks, Stuck}
use Rattle.code_ir.specs.Typing.{Way}

-- The calls that are open below a body of this routine, with so many operands under it. Each goes on at a
-- place whose way counts the results, in the body of an entry or of a routine with a greater number.
pub data Framed (code : Code) : ℕ → List ℕ → ℕ → Type 0 where
  entry : {r : ℕ} → length code.routines ≤ r → Framed code r [] 0
  called : {r f : ℕ} {frames : List ℕ} (h n : ℕ) → r < routine_of code f
      → Way code f (h + results_of code r) → Framed code (routine_of code f) frames n
      → Framed code r (f ∷ frames) (h + n)

pub record Stands (code : Code) (s : State) : Type 0 where
  -- the height in the body, and the operands under it
  pub height : ℕ
  pub below : ℕ
  pub way : Way code s.place height
  pub operands : length s.stack ≡ height + below
  pub framed : Framed code (routine_of code s.place) s.frames below
  pub cells : length s.cells ≡ code.cells

-- ---- how many steps there are to the end at most

-- no fewer steps than there are in one body with all the bodies that it calls, by the number of its routine
abbrev pub unit_of : Code → ℕ → ℕ
unit_of code r = suc (length code.instrs) ^ r

-- what is left of the body of a place
abbrev pub body_left : Code → ℕ → ℕ
body_left code p = (length code.instrs - p) * unit_of code (routine_of code p)

abbrev pub frames_left : Code → List ℕ → ℕ
frames_left code [] = 0
frames_left code (f ∷ frames) = body_left code f + frames_left code frames

-- a jump that isn't forward may come before the next turn; none if the turn comes at once
abbrev pub jumps_left : Option Instr → ℕ
jumps_left None = 1
jumps_left (Some Turn) = 0
jumps_left (Some instr) = 1

abbrev pub most_steps : Code → State → ℕ
most_steps code s = (s.left + s.left + jumps_left (slice_get code.instrs s.place)) * unit_of code
    (suc (length code.routines)) + (body_left code s.place + frames_left code s.frames)

-- the step is over, lacks a token, or goes to a state that stands and is nearer to its end
abbrev pub IsFine : Code → State → Next → Type 0
IsFine code s (Goes t) = Stands code t × (most_steps code t < most_steps code s)
IsFine code s (Over o cells) = Unit {0}
IsFine code s Lacks = Unit {0}
IsFine code s Stuck = ⊥
