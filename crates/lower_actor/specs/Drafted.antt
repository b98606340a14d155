-- Drafts that begin with the routines of functions and procedures.
-- Not trusted: no promise is read with it.
use Rattle.std.specs.Prelude.{◌≡◌, ℕ, ◌+◌, ◌≤◌, ◌⊎◌, Bool, true, false, List, [], ◌∷◌, ◌++◌, length, map, None, Some, slice_get}
use Rattle.cal_model.specs.declared.bound.Bound.{Bound}
use Rattle.cal_model.specs.Actor.{Actor, Fun, Proc}
use Rattle.cal_model.specs.View.{actor_of}
use Rattle.code_ir.specs.declared.instr.Instr.{Instr}
use Rattle.code_ir.specs.declared.instr.Routine.{Routine}
use Rattle.code_ir.specs.Code.{Code}
use Rattle.lower_base.specs.declared.draft.Draft.{Draft}
use Rattle.lower_base.specs.Callees.{Function}
use Rattle.lower_base.specs.Calling.{HasRoutines}
use Rattle.lower_base.specs.Routining.{AreRoutines, IsAdded, left_out_fun}
use Rattle.lower_base.specs.Names.{Name}
use Rattle.lower_stmt.specs.Calls.{HasRunRoutines}
use Rattle.lower_stmt.specs.Proceeding.{AreProcRoutines, IsProcAdded, left_out_proc}
use Rattle.lower_stmt.specs.Procedures.{Procedure, Routines}
use Rattle.action_lower.specs.FiringCode.{globals_of}
use Rattle.action_lower.specs.Seats.{state_cells}
use Rattle.lower_actor.specs.Calls.{LacksOne, calls_of_fun, calls_of_proc, is_made}
use Rattle.lower_actor.specs.Fitting.{AreBodies}
use Rattle.lower_actor.specs.Settled.{AreFunctions, AreProcedures, HasFunction, HasProcedure, calling}

-- code begins with the instructions and the routines of a draft
pub record BeginsWith (draft : Draft) (whole : Code) : Type 0 where
  pub more : List Instr
  pub instrs : whole.instrs ≡ draft.instrs.items ++ more
  pub others : List Routine
  pub routines : whole.routines ≡ draft.routines.items ++ others

-- where the routines of a draft start
abbrev pub starts : Draft → List ℕ
starts draft = map (λ r. r.start) draft.routines.items

-- A draft holds bodies of its routines alone: whatever is written behind it, if bodies stand there, these stand before
-- them.
abbrev pub HoldsRoutines : Draft → Type 0
HoldsRoutines draft = (whole : Code) (rest : List ℕ) → BeginsWith draft whole
    → draft.cells ≤ whole.cells
    → AreBodies whole (length draft.instrs.items) (length draft.routines.items) rest
    → AreBodies whole 0 0 (starts draft ++ rest)

-- ---- numbers of routines

-- the routines of these functions are the first ones, in this order
abbrev pub AreFirst : List Function → Type 0
AreFirst fs = (k : ℕ) (g : Function) → slice_get fs k ≡ Some g → g.routine ≡ k

-- .. and those of these procedures come behind so many others
abbrev pub AreNext : ℕ → List Procedure → Type 0
AreNext n ps = (k : ℕ) (g : Procedure) → slice_get ps k ≡ Some g → g.routine ≡ n + k

-- ---- functions

-- a draft holds the routines of these functions
pub record HoldsFunctions (actor : Actor) (fs : List Function) (draft : Draft) : Type 0 where
  pub state : state_cells actor ≤ draft.cells
  pub stand : (whole : Code) → BeginsWith draft whole
      → AreRoutines (globals_of actor) whole actor.funs (state_cells actor) fs draft.cells
  pub called : (whole : Code) → BeginsWith draft whole
      → HasRoutines whole (length draft.routines.items) draft.cells fs
  pub bodies : HoldsRoutines draft
  pub count : length draft.routines.items ≡ length fs
  pub first : AreFirst fs

-- one function more has a routine
pub record AddsFunction (globals : List Name) (f : Fun) (before now : List Function) (old new : Draft) : Type 0 where
  pub function : Function
  pub is : now ≡ before ++ function ∷ []
  pub added : IsAdded globals before f function old new

-- no part of the function of this number is left out, if it may call these
pub record HasFunctionAt (actor : Actor) (fs : List Function) (k : ℕ) : Type 0 where
  pub function : Fun
  pub there : slice_get actor.funs k ≡ Some function
  pub whole : left_out_fun fs (globals_of actor) function ≡ None

-- What is known of functions that have routines: no part of each is left out if it may call those before it, and each
-- that is marked is one of them.
pub record KnownFunctions (actor : Actor) (fs : List Function) (made : List Bool) : Type 0 where
  pub are : AreFunctions actor fs
  pub marks : (k : ℕ) (f : Fun) → slice_get actor.funs k ≡ Some f → is_made made k ≡ true
      → HasFunction fs f
  pub count : length made ≡ length actor.funs

-- Some functions have their routines, those that are marked.
pub record FunctionsSoFar (actor : Actor) (fs : List Function) (made : List Bool) (draft : Draft) : Type 0 where
  pub holds : HoldsFunctions actor fs draft
  pub known : KnownFunctions actor fs made

-- the function of this number isn't marked, and nothing of it is left out
pub record IsReadyFunction (actor : Actor) (fs : List Function) (made : List Bool) (k : ℕ) : Type 0 where
  pub at : HasFunctionAt actor fs k
  pub not_yet : is_made made k ≡ false

-- the function of this number is marked, or one that it calls isn't
abbrev pub WaitsFunction : Bound → List Bool → ℕ → Type 0
WaitsFunction b made k = (f : Fun) → slice_get (actor_of b).funs k ≡ Some f
    → (is_made made k ≡ true) ⊎ LacksOne made (calls_of_fun b f).functions

-- ---- procedures

pub record HoldsProcedures (actor : Actor) (fs : List Function) (ps : List Procedure) (draft : Draft) : Type 0 where
  pub state : state_cells actor ≤ draft.cells
  pub stand : (whole : Code) → BeginsWith draft whole
      → AreProcRoutines (globals_of actor) whole actor.funs actor.procs (state_cells actor) fs ps
      draft.cells
  pub called : (whole : Code) → BeginsWith draft whole
      → HasRunRoutines whole (length draft.routines.items) draft.cells (calling fs ps)
  pub bodies : HoldsRoutines draft
  pub count : length draft.routines.items ≡ length fs + length ps
  pub first : AreFirst fs
  pub next : AreNext (length fs) ps

pub record AddsProcedure (globals : List Name) (fs : List Function) (p : Proc)
    (before now : List Procedure) (old new : Draft) : Type 0 where
  pub procedure : Procedure
  pub is : now ≡ before ++ procedure ∷ []
  pub added : IsProcAdded globals (calling fs before) p procedure old new

pub record HasProcedureAt (actor : Actor) (fs : List Function) (ps : List Procedure) (k : ℕ) : Type 0 where
  pub procedure : Proc
  pub there : slice_get actor.procs k ≡ Some procedure
  pub whole : left_out_proc (calling fs ps) (globals_of actor) procedure ≡ None

pub record KnownProcedures (actor : Actor) (fs : List Function) (ps : List Procedure)
    (made : List Bool) : Type 0 where
  pub are : AreProcedures actor fs ps
  pub marks : (k : ℕ) (p : Proc) → slice_get actor.procs k ≡ Some p → is_made made k ≡ true
      → HasProcedure ps p
  pub count : length made ≡ length actor.procs

pub record ProceduresSoFar (actor : Actor) (fs : List Function) (ps : List Procedure)
    (made : List Bool) (draft : Draft) : Type 0 where
  pub holds : HoldsProcedures actor fs ps draft
  pub known : KnownProcedures actor fs ps made

pub record IsReadyProcedure (actor : Actor) (fs : List Function) (ps : List Procedure)
    (made : List Bool) (k : ℕ) : Type 0 where
  pub at : HasProcedureAt actor fs ps k
  pub not_yet : is_made made k ≡ false

abbrev pub WaitsProcedure : Bound → List Bool → ℕ → Type 0
WaitsProcedure b made k = (p : Proc) → slice_get (actor_of b).procs k ≡ Some p
    → (is_made made k ≡ true) ⊎ LacksOne made (calls_of_proc b p).procedures

-- ---- behind them

-- code goes on behind a draft, without further routines
abbrev pub GoesOn : Draft → Code → List Instr → Type 0
GoesOn draft whole more = (whole.instrs ≡ draft.instrs.items ++ more)
    × (whole.routines ≡ draft.routines.items)

-- A draft has the routines of all that may be called, with their cells behind the state cells, those of functions before
-- those of procedures.
pub record IsServed (actor : Actor) (rs : Routines) (draft : Draft) : Type 0 where
  pub high : ℕ
  pub state : state_cells actor ≤ high
  pub below : high ≤ draft.cells
  pub stand : (whole : Code) (more : List Instr) → GoesOn draft whole more
      → AreProcRoutines (globals_of actor) whole actor.funs actor.procs (state_cells actor)
      rs.functions rs.procedures high
  pub called : (whole : Code) (more : List Instr) → GoesOn draft whole more
      → HasRunRoutines whole (length draft.routines.items) high rs
  pub count : length draft.routines.items ≡ length rs.functions + length rs.procedures
  pub first : AreFirst rs.functions
  pub next : AreNext (length rs.functions) rs.procedures
