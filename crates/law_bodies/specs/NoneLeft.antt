-- Nothing is left out of bodies that break no rule.
-- Trusted: part of what a promise means.
use Rattle.std.specs.Prelude.{◌≡◌, ℕ, List, None}
use Rattle.cal_ast.specs.Tree.{Tree}
use Rattle.cal_model.specs.declared.bound.Bound.{Bound}
use Rattle.cal_model.specs.Actor.{Actor, Fun, Proc}
use Rattle.cal_model.specs.Kinding.{Names}
use Rattle.cal_model.specs.Sound.{AreStatements, IsFun, IsPlain, IsProc, IsSound}
use Rattle.cal_model.specs.View.{actor_of}
use Rattle.lower_base.specs.Callees.{Function}
use Rattle.lower_base.specs.Names.{Name}
use Rattle.lower_base.specs.Routining.{left_out_fun}
use Rattle.lower_stmt.specs.Proceeding.{left_out_proc}
use Rattle.lower_stmt.specs.Procedures.{Routines}
use Rattle.lower_stmt.specs.StmtGrowing.{left_out_all}
use Rattle.action_lower.specs.FiringWords.{left_out_of}
use Rattle.action_lower.specs.GuardWords.{left_out_action}
use Rattle.law_bodies.specs.Standing.{AreReady, CallsAll, HasProcRoutine, StartsCallAll}
use Rattle.law_forms.specs.Lowerable.{CallsRoutines, HasRoutine}

-- nothing is left out of statements that are ones
abbrev pub NothingLeftOfStatements : Type 0
NothingLeftOfStatements = (funs : List Fun) (procs : List Proc) (rs : Routines) (known : Names)
    (names : List Name) (body : Tree) → AreReady funs known names → CallsAll funs procs rs body
    → IsPlain body → AreStatements body procs known → left_out_all rs names body ≡ None

-- .. of a function
abbrev pub NothingLeftOfFunction : Type 0
NothingLeftOfFunction = (fs : List Function) (known : Names) (names : List Name) (f : Fun)
    → AreReady known.funs known names → StartsCallAll known.funs fs f.locals
    → CallsRoutines known.funs fs f.body → IsFun known f → left_out_fun fs names f ≡ None

-- .. of a procedure
abbrev pub NothingLeftOfProcedure : Type 0
NothingLeftOfProcedure = (procs : List Proc) (rs : Routines) (known : Names) (names : List Name)
    (p : Proc) → AreReady known.funs known names → StartsCallAll known.funs rs.functions p.locals
    → CallsAll known.funs procs rs p.body → IsProc procs known p → left_out_proc rs names p ≡ None

-- each function and each procedure of an actor has a routine
pub record AllHaveRoutines (actor : Actor) (rs : Routines) : Type 0 where
  pub functions : (name : List ℕ) → HasRoutine actor.funs rs.functions name
  pub procedures : (name : List ℕ) → HasProcRoutine actor.procs rs.procedures name

-- nothing is left out of the guards of an action, nor of its firing
abbrev pub NothingLeftOfActions : Type 0
NothingLeftOfActions = (rs : Routines) (b : Bound) (a : ℕ) → IsSound (actor_of b)
    → AllHaveRoutines (actor_of b) rs
    → (left_out_action rs.functions (actor_of b) a ≡ None) × (left_out_of rs b a ≡ None)
