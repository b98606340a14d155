-- Running code: one step, and how a run ends.
-- Trusted: part of what a promise means.
use Rattle.std.specs.Prelude.{◌≡◌, ◌≢◌, ℕ, zero, suc, ◌+◌, ℤ, if◌then◌else◌, List, [], ◌∷◌, None, Some, slice_get}
use Rattle.rvc_base.specs.declared.trap.Trap.TheVariants.{TurnLimit}
use Rattle.rvc_base.specs.Arithmetic.{is_true}
use Rattle.rvc_base.specs.Turns.{max_turns}
use Rattle.code_ir.specs.declared.instr.Instr.{Instr}
use Rattle.code_ir.specs.declared.instr.Instr.TheVariants as op
use Rattle.code_ir.specs.declared.outcome.Outcome.{Outcome}
use Rattle.code_ir.specs.declared.outcome.Outcome.TheVariants as outcome
use Rattle.code_ir.specs.Code.{Code}
use Rattle.code_ir.specs.Effect.{Effect, Leaves, Fails, LacksToken, Breaks, effect}

pub record State : Type 0 where
  -- of the instruction that comes next
  pub place : ℕ
  -- the operands, with the top first
  pub stack : List ℤ
  -- where to go on after each call that is open, the last call first
  pub frames : List ℕ
  pub cells : List ℤ
  -- how many turns may still be made
  pub left : ℕ

pub data Next : Type 0 where
  Goes : State → Next
  -- the run is over, with these cells
  Over : Outcome → List ℤ → Next
  -- a token is read that isn't there
  Lacks : Next
  -- an operand, a frame, a routine or a cell is missing, or the place is outside the code
  Stuck : Next

-- ---- instructions that go elsewhere than to the next place

abbrev pub go_on : State → Effect → Next
go_on s (Leaves stack cells) = Goes (record s { place = s.place + 1; stack = stack; cells = cells })
go_on s (Fails trap) = Over (outcome.Trap trap) s.cells
go_on s LacksToken = Lacks
go_on s Breaks = Stuck

abbrev pub jump_if_not : ℕ → State → List ℤ → Next
jump_if_not t s [] = Stuck
jump_if_not t s (a ∷ stack) =
    Goes (record s { place = if is_true a then s.place + 1 else t; stack = stack })

abbrev pub turn : State → ℕ → Next
turn s zero = Over (outcome.Trap TurnLimit) s.cells
turn s (suc left) = Goes (record s { place = s.place + 1; left = left })

abbrev pub call : Code → ℕ → State → Next
call code r s = elim (slice_get code.routines r) [
  | None ↦ Stuck
  | Some routine ↦ Goes
      (record s { place = routine.start; frames = (s.place + 1) ∷ s.frames })
]

abbrev pub return : State → List ℕ → Next
return s [] = Stuck
return s (place ∷ frames) = Goes (record s { place = place; frames = frames })

abbrev pub answer : State → List ℤ → Next
answer s [] = Stuck
answer s (a ∷ stack) = Over (if is_true a then outcome.True else outcome.False) s.cells

abbrev pub obey : Code → (ℕ → List ℤ) → State → Instr → Next
obey code tokens s (op.Jump t) = Goes (record s { place = t })
obey code tokens s (op.JumpIfNot t) = jump_if_not t s s.stack
obey code tokens s op.Turn = turn s s.left
obey code tokens s (op.Call r) = call code r s
obey code tokens s op.Return = return s s.frames
obey code tokens s op.Answer = answer s s.stack
obey code tokens s op.Done = Over outcome.Done s.cells
obey code tokens s instr = go_on s (effect tokens instr s.stack s.cells)

-- one step
abbrev pub step : Code → (ℕ → List ℤ) → State → Next
step code tokens s =
    elim (slice_get code.instrs s.place) [ None ↦ Stuck | Some instr ↦ obey code tokens s instr ]

-- ---- runs

-- from this state a run comes to this end
pub data Ends (code : Code) (tokens : ℕ → List ℤ) : State → Outcome → List ℤ → Type 0 where
  stop : {s : State} {o : Outcome} {cells : List ℤ} → step code tokens s ≡ Over o cells
      → Ends code tokens s o cells
  go : {s t : State} {o : Outcome} {cells : List ℤ} → step code tokens s ≡ Goes t
      → Ends code tokens t o cells → Ends code tokens s o cells

-- from this state a run comes by that one
pub data Reaches (code : Code) (tokens : ℕ → List ℤ) : State → State → Type 0 where
  here : {s : State} → Reaches code tokens s s
  after : {s t u : State} → step code tokens s ≡ Goes t → Reaches code tokens t u
      → Reaches code tokens s u

-- where a run from an entry starts
abbrev pub start : ℕ → List ℤ → State
start entry cells =
    record { place = entry; stack = []; frames = []; cells = cells; left = max_turns }

-- the code, run from an entry on these cells and tokens, has this outcome and leaves these cells
abbrev pub runs : Code → ℕ → List ℤ → (ℕ → List ℤ) → Outcome → List ℤ → Type 0
runs code entry cells tokens o left = Ends code tokens (start entry cells) o left

-- each token that the run reads is there
abbrev pub HasItsTokens : Code → ℕ → List ℤ → (ℕ → List ℤ) → Type 0
HasItsTokens code entry cells tokens = (s : State) → Reaches code tokens (start entry cells) s
    → step code tokens s ≢ Lacks
