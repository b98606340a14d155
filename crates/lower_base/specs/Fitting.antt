-- What the typing lines of code ask of a part of it.
-- Trusted: part of what a promise means.
use Rattle.std.specs.Prelude.{◌≡◌, ℕ, ◌+◌, ◌-◌, ◌<◌, ◌≤◌, ◌⊎◌, true, List, [], ◌∷◌, ◌++◌, length, Some, slice_get}
use Rattle.code_ir.specs.declared.instr.Instr.{Instr}
use Rattle.code_ir.specs.declared.instr.Instr.TheVariants as op
use Rattle.code_ir.specs.Code.{Code}
use Rattle.code_ir.specs.Typing.{pops, pushes, goes_on, target, NamesCells, CallsSmaller, HasSizes}

-- an instruction that doesn't end a body
abbrev pub IsInner : Instr → Type 0
IsInner op.Return = ⊥
IsInner op.Answer = ⊥
IsInner op.Done = ⊥
IsInner i = Unit {0}

-- an instruction at a place of a part of code that goes from base to end, where the stack has these heights; it may
-- also jump to `out`, and back only to a `Turn`
pub record FitsAt (code : Code) (callable limit base end out : ℕ) (height : ℕ → ℕ) (p : ℕ) (i : Instr) : Type 0 where
  pub enough : pops i ≤ height p
  pub next : goes_on i ≡ true → height (p + 1) ≡ height p - pops i + pushes code i
  pub jump : (t : ℕ) → target i ≡ Some t → height t ≡ height p - pops i + pushes code i
  pub inside : (t : ℕ) → target i ≡ Some t → ((p < t) ⊎ (slice_get code.instrs t ≡ Some op.Turn))
      × (base ≤ t) × ((t ≤ end) ⊎ (t ≡ out))
  pub cells : NamesCells limit i
  pub calls : CallsSmaller callable i
  pub inner : IsInner i
  pub sized : HasSizes i

-- Instructions that fit where they stand: run from the height h they lead to the height k after them, and to the
-- height e at `out`. They name cells below a limit, and call routines whose numbers are below another.
pub record Fits (code : Code) (callable limit base h : ℕ) (instrs : List Instr) (k out e : ℕ) :
    Type 0 where
  pub height : ℕ → ℕ
  pub first : height base ≡ h
  pub last : height (base + length instrs) ≡ k
  pub exit : height out ≡ e
  pub at : (j : ℕ) (i : Instr) → slice_get instrs j ≡ Some i
      → FitsAt code callable limit base (base + length instrs) out height (base + j) i

-- a guard's code: these instructions, and then the answer
abbrev pub guard_of : List Instr → ℕ → Code
guard_of instrs cells =
    record { instrs = instrs ++ op.Answer ∷ []; routines = []; entries = 0 ∷ []; cells = cells }

-- these instructions fit as those of a guard, and leave the one operand that it answers
abbrev pub FitsAsGuard : List Instr → ℕ → Type 0
FitsAsGuard instrs cells =
    Fits (guard_of instrs cells) 0 cells 0 0 instrs 1 (length instrs) 1
