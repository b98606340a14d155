-- Which functions and procedures of an actor have routines.
-- Trusted: part of what a promise means.
use Rattle.std.specs.Prelude.{◌≡◌, ℕ, ◌⊎◌, List, [], ◌∷◌, ◌++◌, None, Some, slice_get}
use Rattle.cal_model.specs.Actor.{Actor, Fun, Proc}
use Rattle.lower_base.specs.Callees.{Function}
use Rattle.lower_base.specs.Routining.{StandForFormals, left_out_fun}
use Rattle.lower_stmt.specs.Proceeding.{left_out_proc}
use Rattle.lower_stmt.specs.Procedures.{Procedure, Routines}
use Rattle.action_lower.specs.FiringCode.{globals_of}

-- ---- functions

-- what is called is a function of the actor: it has its name, its type, and cells for its formals
pub record IsFunction (f : Fun) (g : Function) : Type 0 where
  pub text : g.text ≡ f.name
  pub result : g.result ≡ f.result
  pub formals : StandForFormals f.formals g.formals

-- Functions of an actor, in a row: no part of each is left out if it may call those before it.
pub data AreFunctions (actor : Actor) : List Function → Type 0 where
  no_function : AreFunctions actor []
  function_more : (fs : List Function) (k : ℕ) (f : Fun) (g : Function)
      → AreFunctions actor fs → slice_get actor.funs k ≡ Some f → IsFunction f g
      → left_out_fun fs (globals_of actor) f ≡ None → AreFunctions actor (fs ++ g ∷ [])

-- a function is among those that may be called
pub record HasFunction (fs : List Function) (f : Fun) : Type 0 where
  pub place : ℕ
  pub function : Function
  pub there : slice_get fs place ≡ Some function
  pub is : IsFunction f function

-- each function of the actor is among these, or a part of it is left out though it may call these
abbrev pub AllFunctions : Actor → List Function → Type 0
AllFunctions actor fs = (k : ℕ) (f : Fun) → slice_get actor.funs k ≡ Some f
    → HasFunction fs f ⊎ ((at : ℕ) × left_out_fun fs (globals_of actor) f ≡ Some at)

-- ---- procedures

pub record IsProcedure (p : Proc) (g : Procedure) : Type 0 where
  pub text : g.text ≡ p.name
  pub formals : StandForFormals p.formals g.formals

-- what a procedure may call
abbrev pub calling : List Function → List Procedure → Routines
calling fs ps = record { functions = fs; procedures = ps }

-- the same of procedures, which may call all functions
pub data AreProcedures (actor : Actor) (fs : List Function) : List Procedure → Type 0 where
  no_procedure : AreProcedures actor fs []
  procedure_more : (ps : List Procedure) (k : ℕ) (p : Proc) (g : Procedure)
      → AreProcedures actor fs ps → slice_get actor.procs k ≡ Some p → IsProcedure p g
      → left_out_proc (calling fs ps) (globals_of actor) p ≡ None
      → AreProcedures actor fs (ps ++ g ∷ [])

pub record HasProcedure (ps : List Procedure) (p : Proc) : Type 0 where
  pub place : ℕ
  pub procedure : Procedure
  pub there : slice_get ps place ≡ Some procedure
  pub is : IsProcedure p procedure

abbrev pub AllProcedures : Actor → List Function → List Procedure → Type 0
AllProcedures actor fs ps = (k : ℕ) (p : Proc) → slice_get actor.procs k ≡ Some p
    → HasProcedure ps p
    ⊎ ((at : ℕ) × left_out_proc (calling fs ps) (globals_of actor) p ≡ Some at)

-- ---- both

-- All functions and procedures have routines of which no part is left out, if what they call is among them.
pub record AreSettled (actor : Actor) (rs : Routines) : Type 0 where
  pub functions : AreFunctions actor rs.functions
  pub all_functions : AllFunctions actor rs.functions
  pub procedures : AreProcedures actor rs.functions rs.procedures
  pub all_procedures : AllProcedures actor rs.functions rs.procedures
