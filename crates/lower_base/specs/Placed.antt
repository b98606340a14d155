-- Instructions that stand somewhere in code, and states of a run there.
-- Trusted: part of what a promise means.
use Rattle.std.specs.Prelude.{◌≡◌, ℕ, ◌+◌, ℤ, List, [], ◌∷◌, Some, slice_get}
use Rattle.cal_model.specs.Expression.{Calls}
use Rattle.code_ir.specs.declared.instr.Instr.{Instr}
use Rattle.code_ir.specs.Code.{Code}
use Rattle.code_ir.specs.Running.{State}

-- these instructions stand at a place
abbrev pub StandsAt : List Instr → ℕ → List Instr → Type 0
StandsAt all place [] = Unit {0}
StandsAt all place (i ∷ instrs) = (slice_get all place ≡ Some i) × StandsAt all (place + 1) instrs

abbrev pub state : ℕ → List ℤ → List ℕ → List ℤ → ℕ → State
state place stack frames cells left =
    record { place = place; stack = stack; frames = frames; cells = cells; left = left }

-- What is round the instructions of an expression: all the code, the tokens, what functions give, and the cells
-- from low to high, which the routines of the code use.
pub record World : Type 0 where
  pub code : Code
  pub tokens : ℕ → List ℤ
  pub calls : Calls
  pub low : ℕ
  pub high : ℕ
