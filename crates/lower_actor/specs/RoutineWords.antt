-- The words of the contracts of calls that make routines, over names and routines as the code has them.
-- Not trusted: no promise is read with it.
use Rattle.std.specs.Prelude.{◌≡◌, ℕ, Bool, List, None}
use Rattle.cal_model.specs.declared.bound.Bound.{Bound}
use Rattle.cal_model.specs.declared.bound.BoundFun.{BoundFun}
use Rattle.cal_model.specs.declared.bound.BoundProc.{BoundProc}
use Rattle.cal_model.specs.View.{actor_of, fun_view, proc_view}
use Rattle.lower_base.specs.declared.callees.Callee.{Callee}
use Rattle.lower_base.specs.declared.draft.Draft.{Draft}
use Rattle.lower_base.specs.declared.names.Named.{Named}
use Rattle.lower_base.specs.Callees.{functions_view}
use Rattle.lower_base.specs.Names.{names_view}
use Rattle.lower_base.specs.Routining.{left_out_fun}
use Rattle.lower_stmt.specs.declared.callees.ProcCallee.{ProcCallee}
use Rattle.lower_stmt.specs.Proceeding.{left_out_proc}
use Rattle.lower_stmt.specs.Procedures.{procedures_view, routines_of}
use Rattle.law_forms.specs.Lowerable.{HasRoutine}
use Rattle.lower_actor.specs.Drafted.{AddsFunction, AddsProcedure, FunctionsSoFar, HoldsProcedures, IsReadyFunction, IsReadyProcedure}
use Rattle.lower_actor.specs.Drafted.{KnownFunctions, KnownProcedures, ProceduresSoFar, WaitsFunction, WaitsProcedure}
use Rattle.lower_actor.specs.Settled.{AllProcedures, AreProcedures}

-- ---- functions

-- some functions have routines, those that are marked
abbrev pub MadeFunctions : Bound → List Callee → List Bool → Draft → Type 0
MadeFunctions b callees made draft =
    FunctionsSoFar (actor_of b) (functions_view callees) made draft

-- what is known of them
abbrev pub KnownFuns : Bound → List Callee → List Bool → Type 0
KnownFuns b callees made = KnownFunctions (actor_of b) (functions_view callees) made

-- nothing is left out of the function of a number, which isn't marked
abbrev pub IsReadyFun : Bound → List Callee → List Bool → ℕ → Type 0
IsReadyFun b callees made k = IsReadyFunction (actor_of b) (functions_view callees) made k

-- each that isn't marked calls one that isn't
abbrev pub NoFunctionLeft : Bound → List Bool → Type 0
NoFunctionLeft b made = (k : ℕ) → WaitsFunction b made k

-- each function that is called has a routine
abbrev pub HaveRoutines : Bound → List Callee → Type 0
HaveRoutines b callees = (text : List ℕ)
    → HasRoutine (actor_of b).funs (functions_view callees) text

-- no part of a function is left out
abbrev pub IsWholeFun : List Named → List Callee → BoundFun → Type 0
IsWholeFun names callees f =
    left_out_fun (functions_view callees) (names_view names) (fun_view f) ≡ None

-- one function more has a routine
abbrev pub AddsFun : List Named → BoundFun → List Callee → List Callee → Draft → Draft → Type 0
AddsFun names f before now old new =
    AddsFunction (names_view names) (fun_view f) (functions_view before) (functions_view now)
    old new

-- ---- procedures

-- a draft holds the routines of these functions and procedures
abbrev pub HoldsRoutinesOf : Bound → List Callee → List ProcCallee → Draft → Type 0
HoldsRoutinesOf b callees procedures draft =
    HoldsProcedures (actor_of b) (functions_view callees) (procedures_view procedures) draft

-- no part of each of these procedures is left out if it may call the functions and those before it
abbrev pub AreInOrder : Bound → List Callee → List ProcCallee → Type 0
AreInOrder b callees procedures =
    AreProcedures (actor_of b) (functions_view callees) (procedures_view procedures)

-- each procedure is among these, or a part of it is left out
abbrev pub AreAllProcedures : Bound → List Callee → List ProcCallee → Type 0
AreAllProcedures b callees procedures =
    AllProcedures (actor_of b) (functions_view callees) (procedures_view procedures)

abbrev pub MadeProcedures : Bound → List Callee → List ProcCallee → List Bool → Draft → Type 0
MadeProcedures b callees procedures made draft =
    ProceduresSoFar (actor_of b) (functions_view callees) (procedures_view procedures) made draft

abbrev pub KnownProcs : Bound → List Callee → List ProcCallee → List Bool → Type 0
KnownProcs b callees procedures made =
    KnownProcedures (actor_of b) (functions_view callees) (procedures_view procedures) made

abbrev pub IsReadyProc : Bound → List Callee → List ProcCallee → List Bool → ℕ → Type 0
IsReadyProc b callees procedures made k =
    IsReadyProcedure (actor_of b) (functions_view callees) (procedures_view procedures) made k

abbrev pub NoProcedureLeft : Bound → List Bool → Type 0
NoProcedureLeft b made = (k : ℕ) → WaitsProcedure b made k

abbrev pub IsWholeProc : List Named → List Callee → List ProcCallee → BoundProc → Type 0
IsWholeProc names callees procedures p =
    left_out_proc (routines_of callees procedures) (names_view names) (proc_view p) ≡ None

abbrev pub AddsProc : List Named → List Callee → BoundProc → List ProcCallee → List ProcCallee → Draft → Draft → Type 0
AddsProc names callees p before now old new =
    AddsProcedure (names_view names) (functions_view callees) (proc_view p)
    (procedures_view before) (procedures_view now) old new
