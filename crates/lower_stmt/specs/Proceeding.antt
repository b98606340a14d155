-- Code of procedures as routines, and what is left out of them.
-- Trusted: part of what a promise means.
use Rattle.std.specs.Prelude.{◌≡◌, ℕ, ◌+◌, List, [], ◌∷◌, ◌++◌, length, map, Option, None, Some, slice_get}
use Rattle.rvc_base.specs.declared.scalar.Scalar.{Scalar}
use Rattle.cal_ast.specs.Tree.{Tree}
use Rattle.cal_ast.specs.View.{optional}
use Rattle.cal_model.specs.Value.{Single, IsType, scalars_of_type}
use Rattle.cal_model.specs.Actor.{Fun, Local, Proc}
use Rattle.cal_model.specs.Statement.{proc_named}
use Rattle.code_ir.specs.declared.instr.Instr.{Instr}
use Rattle.code_ir.specs.declared.instr.Instr.TheVariants as op
use Rattle.code_ir.specs.declared.instr.Routine.{Routine}
use Rattle.code_ir.specs.Code.{Code}
use Rattle.lower_base.specs.declared.callees.Callee.{Callee}
use Rattle.lower_base.specs.declared.draft.Draft.{Draft}
use Rattle.lower_base.specs.declared.fault.LowerFault.{LowerFault}
use Rattle.lower_base.specs.declared.names.Named.{Named}
use Rattle.lower_base.specs.Callees.{Function}
use Rattle.lower_base.specs.Calling.{AreInRow}
use Rattle.lower_base.specs.Fitting.{Fits}
use Rattle.lower_base.specs.Growing.{IsFault, ◌or_else◌}
use Rattle.lower_base.specs.Names.{Name, local, names_view}
use Rattle.lower_base.specs.Placed.{StandsAt}
use Rattle.lower_base.specs.Routining.{AreRoutines, LocalsSized, StandForFormals, behind_formals, left_out_formals, some_formal}
use Rattle.lower_base.specs.Starting.{IsStart}
use Rattle.lower_stmt.specs.declared.callees.ProcCallee.{ProcCallee}
use Rattle.lower_stmt.specs.ListStarting.{IsListStart, left_out_local, local_of}
use Rattle.lower_stmt.specs.Procedures.{Procedure, Routines, procedure_view, routines_of}
use Rattle.lower_stmt.specs.Stating.{AreStmts}
use Rattle.lower_stmt.specs.StmtGrowing.{left_out_all}

-- Code of the locals of a procedure, each of which is seen by those behind it, of its statements, and of the return.
pub data IsProcBody (rs : Routines) (body : Tree) :
    List Name → List Local → ℕ → ℕ → List Instr → ℕ → Type 0 where
  no_local : (names : List Name) (base n m : ℕ) (code : List Instr)
      → AreStmts rs names body base n code m
      → IsProcBody rs body names [] base n (code ++ op.Return ∷ []) m
  local_more : (names : List Name) (x : Local) (xs : List Local) (kind : Scalar)
      (base n k m : ℕ) (a b : List Instr)
      → x.shape ≡ Single kind
      → IsStart rs.functions names kind n (optional x.start) base (n + 1) a k
      → IsProcBody rs body (local x.name kind n ∷ names) xs (base + length a) k b m
      → IsProcBody rs body names (x ∷ xs) base n (a ++ b) m
  local_list : (names : List Name) (x : Local) (xs : List Local) (base n k m : ℕ)
      (a b : List Instr)
      → IsType x.shape
      → IsListStart rs.functions names x.shape n (optional x.start) base (n + scalars_of_type x.shape) a k
      → IsProcBody rs body (local_of x.name x.shape n ∷ names) xs (base + length a) k b m
      → IsProcBody rs body names (x ∷ xs) base n (a ++ b) m

-- The code of a procedure as a routine that is called by this name: its formals stand side by side in cells from n on.
pub record IsProcRoutine (globals : List Name) (rs : Routines) (p : Proc) (g : Procedure)
    (base n : ℕ) (code : List Instr) (m : ℕ) : Type 0 where
  pub text : g.text ≡ p.name
  pub formals : StandForFormals p.formals g.formals
  pub row : AreInRow n g.formals
  pub body :
      IsProcBody rs p.body (behind_formals p.formals g.formals globals) p.locals base
      (n + length g.formals) code m

-- the types of a procedure have sizes that are allowed
pub record ProcSized (p : Proc) : Type 0 where
  pub formals : LocalsSized p.formals
  pub locals : LocalsSized p.locals

-- Routines that stand in code, for procedures of an actor, behind those of its functions: each calls only those before
-- it, and its cells lie behind theirs. The last one's cells end at n.
pub data AreProcRoutines (globals : List Name) (whole : Code) (funs : List Fun) (procs : List Proc)
    (low : ℕ) (fs : List Function) :
    List Procedure → ℕ → Type 0 where
  no_procedure : (n : ℕ) → AreRoutines globals whole funs low fs n
      → AreProcRoutines globals whole funs procs low fs [] n
  procedure_more : (ps : List Procedure) (p : Proc) (g : Procedure) (r : Routine) (base n m : ℕ)
      (code : List Instr)
      → AreProcRoutines globals whole funs procs low fs ps n
      → IsProcRoutine globals (record { functions = fs; procedures = ps }) p g base n code m
      → proc_named p.name procs ≡ Some p → ProcSized p
      → slice_get whole.routines g.routine ≡ Some r → r.start ≡ base
      → StandsAt whole.instrs base code
      → AreProcRoutines globals whole funs procs low fs (ps ++ g ∷ []) m

-- ---- what is left out

-- the first part of the start of a local or of the statements for which no code is made
abbrev pub left_out_proc_body : Routines → List Name → List Local → Tree → Option ℕ
left_out_proc_body rs names [] body = left_out_all rs names body
left_out_proc_body rs names (x ∷ xs) body = left_out_local rs.functions names x
    or_else left_out_proc_body rs (local_of x.name x.shape 0 ∷ names) xs body

abbrev pub left_out_proc : Routines → List Name → Proc → Option ℕ
left_out_proc rs names p =
    left_out_formals p.formals or_else left_out_proc_body rs
    (behind_formals p.formals (map some_formal p.formals) names) p.locals p.body

-- ---- what a call does

-- the routine of a procedure was added to a draft, and is called so
pub record IsProcAdded (globals : List Name) (rs : Routines) (p : Proc) (g : Procedure) (old new : Draft) : Type 0 where
  pub code : List Instr
  pub is : new.instrs.items ≡ old.instrs.items ++ code
  pub routine : Routine
  pub start : routine.start ≡ length old.instrs.items
  pub results : routine.results ≡ 0
  pub routines : new.routines.items ≡ old.routines.items ++ routine ∷ []
  pub number : g.routine ≡ length old.routines.items
  pub has : IsProcRoutine globals rs p g (length old.instrs.items) old.cells code new.cells

abbrev pub AddsProcRoutine : List Named → List Callee → List ProcCallee → Proc → Draft → Draft → ProcCallee → Type 0
AddsProcRoutine names callees procedures p old new callee =
    IsProcAdded (names_view names) (routines_of callees procedures) p (procedure_view callee) old new

abbrev pub IsWholeProc : List Named → List Callee → List ProcCallee → Proc → Type 0
IsWholeProc names callees procedures p =
    left_out_proc (routines_of callees procedures) (names_view names) p ≡ None

abbrev pub IsFaultOfProc : List Named → List Callee → List ProcCallee → Proc → Draft → LowerFault → Type 0
IsFaultOfProc names callees procedures p draft fault =
    IsFault (left_out_proc (routines_of callees procedures) (names_view names) p) draft fault

-- ---- in other code

-- instructions that fit as those of a routine that leaves nothing: these, and then the return
pub record FitsAsProc (whole : Code) (callable limit base : ℕ) (code : List Instr) : Type 0 where
  pub body : List Instr
  pub is : code ≡ body ++ op.Return ∷ []
  pub fits : Fits whole callable limit base 0 body 0 (base + length body) 0
