-- Code of functions as routines, and what calling them does.
-- Trusted: part of what a promise means.
use Rattle.std.specs.Prelude.{◌≡◌, ℕ, ◌+◌, ℤ, List, [], ◌∷◌, ◌++◌, length, map, Option, None, Some, slice_get}
use Rattle.rvc_base.specs.declared.scalar.Scalar.{Scalar}
use Rattle.rvc_base.specs.declared.scalar.Scalar.TheVariants as scalar
use Rattle.rvc_base.specs.Storing.{IsSize}
use Rattle.cal_ast.specs.Tree.{Tree}
use Rattle.cal_ast.specs.View.{optional}
use Rattle.cal_model.specs.Value.{Single, IsType}
use Rattle.cal_model.specs.Expression.{Calls}
use Rattle.cal_model.specs.Actor.{Local, Fun}
use Rattle.cal_model.specs.Call.{fun_named}
use Rattle.code_ir.specs.declared.instr.Routine.{Routine}
use Rattle.code_ir.specs.Code.{Code}
use Rattle.code_ir.specs.declared.instr.Instr.{Instr}
use Rattle.code_ir.specs.declared.instr.Instr.TheVariants as op
use Rattle.lower_base.specs.declared.callees.Callee.{Callee}
use Rattle.lower_base.specs.declared.callees.Formal.{Formal}
use Rattle.lower_base.specs.declared.draft.Draft.{Draft}
use Rattle.lower_base.specs.declared.fault.LowerFault.{LowerFault}
use Rattle.lower_base.specs.declared.names.Named.{Named}
use Rattle.lower_base.specs.Callees.{Function, function_view, functions_view}
use Rattle.lower_base.specs.Calling.{AreInRow}
use Rattle.lower_base.specs.Coding.{IsCode}
use Rattle.lower_base.specs.Fitting.{Fits}
use Rattle.lower_base.specs.Growing.{IsFault, left_out_in, ◌or_else◌}
use Rattle.lower_base.specs.Listed.{single_of}
use Rattle.lower_base.specs.ListStarts.{StartsList}
use Rattle.lower_base.specs.Names.{local, local_of, Name, names_view}
use Rattle.lower_base.specs.Placed.{StandsAt, World}
use Rattle.lower_base.specs.Starting.{IsStart, left_out_local}

-- the formals of a function stand in these cells, with the types of single values that they have
abbrev pub StandForFormals : List Local → List Formal → Type 0
StandForFormals [] [] = Unit {0}
StandForFormals (x ∷ xs) (y ∷ ys) = (x.shape ≡ Single y.kind) × StandForFormals xs ys
StandForFormals xs ys = ⊥

-- the names that a function's locals see: its formals, the last one first, and then these names
abbrev pub behind_formals : List Local → List Formal → List Name → List Name
behind_formals (x ∷ xs) (y ∷ ys) names =
    behind_formals xs ys (local x.name y.kind y.cell ∷ names)
behind_formals xs ys names = names

-- the value goes through a cell, so that it is stored in the type of the result, and is returned
abbrev pub return_code : ℕ → Scalar → List Instr
return_code c t = op.Store c (Some t) ∷ op.Load c ∷ op.Return ∷ []

-- Code of the locals of a function, each of which is seen by those behind it, and of its body.
pub data IsBody (fs : List Function) (t : Scalar) (e : Tree) :
    List Name → List Local → ℕ → ℕ → List Instr → ℕ → Type 0 where
  no_more_locals : (names : List Name) (base n m : ℕ) (code : List Instr)
      → IsCode fs names e base (n + 1) code m
      → IsBody fs t e names [] base n (code ++ return_code n t) m
  one_more_local : (names : List Name) (x : Local) (xs : List Local) (kind : Scalar)
      (base n k m : ℕ) (a b : List Instr)
      → x.shape ≡ Single kind → IsStart fs names kind n (optional x.start) base (n + 1) a k
      → IsBody fs t e (local x.name kind n ∷ names) xs (base + length a) k b m
      → IsBody fs t e names (x ∷ xs) base n (a ++ b) m
  one_more_list : (names : List Name) (x : Local) (xs : List Local) (base n k m : ℕ)
      (a b : List Instr)
      → IsType x.shape → StartsList fs names x n base a k
      → IsBody fs t e (local_of x.name x.shape n ∷ names) xs (base + length a) k b m
      → IsBody fs t e names (x ∷ xs) base n (a ++ b) m

-- The code of a function as a routine that is called by this name: its formals stand side by side in cells from n on.
pub record IsRoutine (globals : List Name) (fs : List Function) (f : Fun) (g : Function)
    (base n : ℕ) (code : List Instr) (m : ℕ) : Type 0 where
  pub text : g.text ≡ f.name
  pub result : g.result ≡ f.result
  pub formals : StandForFormals f.formals g.formals
  pub row : AreInRow n g.formals
  pub body :
      IsBody fs f.result f.body (behind_formals f.formals g.formals globals) f.locals base
      (n + length g.formals) code m

-- the type of each local is one of single values whose size is allowed, if it is one of single values
abbrev pub LocalsSized : List Local → Type 0
LocalsSized [] = Unit {0}
LocalsSized (x ∷ xs) = ((t : Scalar) → x.shape ≡ Single t → IsSize t) × LocalsSized xs

-- the types of a function have sizes that are allowed
pub record FunSized (f : Fun) : Type 0 where
  pub formals : LocalsSized f.formals
  pub locals : LocalsSized f.locals
  pub result : IsSize f.result

-- code with tokens, with what functions give, and with the cells of routines from low to high
abbrev pub world_of : Code → (ℕ → List ℤ) → Calls → ℕ → ℕ → World
world_of code tokens calls low high =
    record { code = code; tokens = tokens; calls = calls; low = low; high = high }

-- Routines that stand in code, for functions of an actor: each calls only those before it, and its cells lie behind
-- theirs. The last one's cells end at n.
pub data AreRoutines (globals : List Name) (whole : Code) (all : List Fun) (low : ℕ) :
    List Function → ℕ → Type 0 where
  no_routine : AreRoutines globals whole all low [] low
  routine_more : (fs : List Function) (f : Fun) (g : Function) (r : Routine) (base n m : ℕ)
      (code : List Instr)
      → AreRoutines globals whole all low fs n → IsRoutine globals fs f g base n code m
      → fun_named f.name all ≡ Some f → FunSized f
      → slice_get whole.routines g.routine ≡ Some r → r.start ≡ base
      → StandsAt whole.instrs base code
      → AreRoutines globals whole all low (fs ++ g ∷ []) m

-- ---- what is left out

-- a formal that is no single value
abbrev pub left_out_formals : List Local → Option ℕ
left_out_formals [] = None
left_out_formals (x ∷ xs) = elim (single_of x.shape)
    [ None ↦ Some 0 | Some t ↦ left_out_formals xs ]

-- the first part of the start of a local or of the body for which no code is made
abbrev pub left_out_body : List Function → List Name → List Local → Tree → Option ℕ
left_out_body fs names [] e = left_out_in fs names e
left_out_body fs names (x ∷ xs) e = left_out_local fs names x
    or_else left_out_body fs (local_of x.name x.shape 0 ∷ names) xs e

-- formals in any cells
abbrev pub some_formal : Local → Formal
some_formal x =
    record { cell = 0; kind = elim (single_of x.shape) [ None ↦ scalar.Bool | Some t ↦ t ] }

abbrev pub left_out_fun : List Function → List Name → Fun → Option ℕ
left_out_fun fs names f =
    left_out_formals f.formals or_else left_out_body fs
    (behind_formals f.formals (map some_formal f.formals) names) f.locals f.body

-- ---- what a call does

-- the routine of a function was added to a draft, and is called so
pub record IsAdded (globals : List Name) (fs : List Function) (f : Fun) (g : Function) (old new : Draft) : Type 0 where
  pub code : List Instr
  pub is : new.instrs.items ≡ old.instrs.items ++ code
  pub routine : Routine
  pub start : routine.start ≡ length old.instrs.items
  pub results : routine.results ≡ 1
  pub routines : new.routines.items ≡ old.routines.items ++ routine ∷ []
  pub number : g.routine ≡ length old.routines.items
  pub has : IsRoutine globals fs f g (length old.instrs.items) old.cells code new.cells

abbrev pub AddsRoutine : List Named → List Callee → Fun → Draft → Draft → Callee → Type 0
AddsRoutine names callees f old new callee =
    IsAdded (names_view names) (functions_view callees) f (function_view callee) old new

abbrev pub IsWholeFun : List Named → List Callee → Fun → Type 0
IsWholeFun names callees f = left_out_fun (functions_view callees) (names_view names) f ≡ None

abbrev pub IsFaultOfFun : List Named → List Callee → Fun → Draft → LowerFault → Type 0
IsFaultOfFun names callees f draft fault =
    IsFault (left_out_fun (functions_view callees) (names_view names) f) draft fault

-- ---- in other code

-- instructions that fit as those of a routine with one result: these, and then the return
pub record FitsAsRoutine (whole : Code) (callable limit base : ℕ) (code : List Instr) : Type 0 where
  pub body : List Instr
  pub is : code ≡ body ++ op.Return ∷ []
  pub fits : Fits whole callable limit base 0 body 1 (base + length body) 1
