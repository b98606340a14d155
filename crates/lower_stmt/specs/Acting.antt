-- Routines that do what procedures do.
-- Trusted: part of what a promise means.
use Rattle.std.specs.Prelude.{◌≡◌, ℕ, ◌+◌, ◌≤◌, ℤ, List, ◌∷◌, length, Some, slice_get}
use Rattle.cal_model.specs.Value.{Values}
use Rattle.cal_model.specs.Outcome.{Out, Gives, Traps, Lacks, Clashes}
use Rattle.cal_model.specs.Env.{Var}
use Rattle.cal_model.specs.Statement.{Runs}
use Rattle.code_ir.specs.declared.instr.Routine.{Routine}
use Rattle.code_ir.specs.declared.outcome.Outcome.{Outcome}
use Rattle.code_ir.specs.declared.outcome.Outcome.TheVariants as outcome
use Rattle.code_ir.specs.Running.{State, Reaches, Ends}
use Rattle.lower_base.specs.declared.callees.Formal.{Formal}
use Rattle.lower_base.specs.Calling.{AreInRow, AreOfSizes, HoldArguments, outside}
use Rattle.lower_base.specs.Following.{Follows}
use Rattle.lower_base.specs.Names.{Name}
use Rattle.lower_base.specs.Placed.{World, state}
use Rattle.lower_stmt.specs.Changing.{HoldsVars, KeepsBut}
use Rattle.lower_stmt.specs.Executing.{BreaksOff}
use Rattle.lower_stmt.specs.Procedures.{Procedure, procedure_named}

-- cells for arguments lie side by side, from low to high, and their types have sizes that are allowed
pub record HasCells (low high : ℕ) (xs : List Formal) : Type 0 where
  pub first : ℕ
  pub row : AreInRow first xs
  pub low_end : low ≤ first
  pub high_end : first + length xs ≤ high
  pub sizes : AreOfSizes xs

-- The run goes on to a place, with one frame less, with the operands that there were and with cells that hold these
-- globals. It changes only the cells of the globals and those of routines.
pub record ComesBack (w : World) (globals : List Name) (s : State) (back : ℕ) (frames : List ℕ)
    (vars : List Var) (left : ℕ) : Type 0 where
  pub cells : List ℤ
  pub reaches : Reaches w.code w.tokens s (state back s.stack frames cells left)
  pub keeps : KeepsBut globals 0 0 w.low w.high s.cells cells
  pub holds : HoldsVars globals w.tokens cells (outside vars)

-- How a run ends that goes as a procedure does: if that gives globals, as it ends from the place to which it comes back,
-- with cells that hold these globals; if it traps, by that trap.
abbrev pub EndsAsRun : World → List Name → State → ℕ → List ℕ → Out (List Var) → Outcome → List ℤ → Type 0
EndsAsRun w globals s back frames (Gives vars left) o last =
    (cells : List ℤ) × KeepsBut globals 0 0 w.low w.high s.cells cells
    × HoldsVars globals w.tokens cells (outside vars)
    × Ends w.code w.tokens (state back s.stack frames cells left) o last
EndsAsRun w globals s back frames (Traps c) o last = (o ≡ outcome.Trap c)
    × KeepsBut globals 0 0 w.low w.high s.cells last
EndsAsRun w globals s back frames Lacks o last = Unit {0}
EndsAsRun w globals s back frames Clashes o last = Unit {0}

-- The routine of a procedure does what the procedure does: called with cells that hold the globals and the arguments,
-- it comes back with cells that hold what the globals are then and with as many turns left, or traps; and a run of it has no other end.
pub record ActsAs (w : World) (runs : Runs) (globals : List Name) (text : List ℕ) (p : Procedure) : Type 0 where
  pub formals : HasCells w.low w.high p.formals
  pub routine : Routine
  pub is : slice_get w.code.routines p.routine ≡ Some routine
  pub goes : (vars : List Var) (args : Values) (stack : List ℤ) (back : ℕ) (frames : List ℕ)
      (cells : List ℤ) (left : ℕ)
      → w.high ≤ length cells → HoldsVars globals w.tokens cells (outside vars)
      → HoldArguments p.formals cells args
      → Follows (runs vars text args left)
      (ComesBack w globals (state routine.start stack (back ∷ frames) cells left) back frames)
      (BreaksOff w globals 0 0 (state routine.start stack (back ∷ frames) cells left))
  pub only : (vars : List Var) (args : Values) (stack : List ℤ) (back : ℕ) (frames : List ℕ)
      (cells : List ℤ) (left : ℕ)
      → w.high ≤ length cells → HoldsVars globals w.tokens cells (outside vars)
      → HoldArguments p.formals cells args
      → (o : Outcome) (last : List ℤ)
      → Ends w.code w.tokens (state routine.start stack (back ∷ frames) cells left) o last
      → EndsAsRun w globals (state routine.start stack (back ∷ frames) cells left) back frames
      (runs vars text args left) o last

-- each of these procedures has a routine in the code
abbrev pub ServesRuns : World → Runs → List Name → List Procedure → Type 0
ServesRuns w runs globals ps = (text : List ℕ) (p : Procedure) → procedure_named text ps ≡ Some p
    → ActsAs w runs globals text p
