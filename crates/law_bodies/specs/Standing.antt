-- Names, functions and procedures of which the code has what a body needs.
-- Trusted: part of what a promise means.
use Rattle.std.specs.Prelude.{◌≡◌, ℕ, List, length, true, Some}
use Rattle.cal_ast.specs.Tree.{Tree}
use Rattle.cal_model.specs.Actor.{Fun, Local, Proc}
use Rattle.cal_model.specs.Kinding.{Known, Names, meant_by}
use Rattle.cal_model.specs.Sound.{Each, EachCall, IsFormal, StartCalls}
use Rattle.cal_model.specs.Statement.{proc_named}
use Rattle.lower_base.specs.declared.names.Seat.TheVariants.{Cell}
use Rattle.lower_base.specs.Callees.{Function}
use Rattle.lower_base.specs.Names.{Name, named}
use Rattle.lower_stmt.specs.Procedures.{Procedure, Routines, procedure_named}
use Rattle.law_forms.specs.Lowerable.{AreSeen, HasRoutine}

-- ---- names

-- what may be assigned stands in cells
abbrev pub AreInCells : Names → List Name → Type 0
AreInCells known names = (text : List ℕ) (x : Known) (name : Name) → meant_by text known ≡ Some x
    → x.changes ≡ true → named text names ≡ Some name → (c : ℕ) × (name.seat ≡ Cell c)

-- the code sees all names, and these functions are known
pub record AreReady (funs : List Fun) (known : Names) (names : List Name) : Type 0 where
  pub calls : known.funs ≡ funs
  pub seen : AreSeen known names
  pub cells : AreInCells known names

-- ---- procedures

-- a procedure is called by its routine, with as many formals, which are single values
pub record IsRoutineOfProc (ps : List Procedure) (text : List ℕ) (p : Proc) : Type 0 where
  pub routine : Procedure
  pub found : procedure_named text ps ≡ Some routine
  pub formals : Each IsFormal p.formals
  pub as_many : length routine.formals ≡ length p.formals

-- a procedure of this name has one
abbrev pub HasProcRoutine : List Proc → List Procedure → List ℕ → Type 0
HasProcRoutine procs ps text = (p : Proc) → proc_named text procs ≡ Some p
    → IsRoutineOfProc ps text p

-- ---- calls

-- each function and each procedure that is called has a routine
abbrev pub CallsAll : List Fun → List Proc → Routines → Tree → Type 0
CallsAll funs procs rs t =
    EachCall (HasRoutine funs rs.functions) (HasProcRoutine procs rs.procedures) t

-- .. each function by the starts of locals
abbrev pub StartsCallAll : List Fun → List Function → List Local → Type 0
StartsCallAll funs fs xs = Each (StartCalls (HasRoutine funs fs) (λ name. Unit {0})) xs
