-- Code of statements that call, and what it does: the locals round it are named in a row, and the globals behind them.
-- Trusted: part of what a promise means.
use Rattle.std.specs.Prelude.{◌≡◌, ℕ, ◌+◌, ◌<◌, ◌≤◌, ◌⊎◌, ℤ, List, [], ◌∷◌, ◌++◌, length, None, Some, slice_get}
use Rattle.rvc_base.specs.declared.trap.Trap.{Trap}
use Rattle.cal_ast.specs.Tree.{Tree}
use Rattle.cal_model.specs.Value.{Shape, HasKind, IsType, kind_of_type, scalars_of_type}
use Rattle.cal_model.specs.Outcome.{Out, Gives, Traps, Lacks, Clashes}
use Rattle.cal_model.specs.Env.{Var, Env}
use Rattle.cal_model.specs.Statement.{Runs, exec_all}
use Rattle.code_ir.specs.declared.instr.Instr.{Instr}
use Rattle.code_ir.specs.declared.outcome.Outcome.{Outcome}
use Rattle.code_ir.specs.declared.outcome.Outcome.TheVariants as outcome
use Rattle.code_ir.specs.Code.{Code}
use Rattle.code_ir.specs.Running.{State, Reaches, Ends}
use Rattle.lower_base.specs.declared.names.Seat.{Seat}
use Rattle.lower_base.specs.declared.names.Seat.TheVariants.{Cell, Tokens}
use Rattle.lower_base.specs.declared.callees.Callee.{Callee}
use Rattle.lower_base.specs.declared.draft.Draft.{Draft}
use Rattle.lower_base.specs.declared.fault.LowerFault.{LowerFault}
use Rattle.lower_base.specs.declared.names.Named.{Named}
use Rattle.lower_base.specs.Calling.{Serves, outside}
use Rattle.lower_base.specs.Fitting.{Fits}
use Rattle.lower_base.specs.Flat.{flat}
use Rattle.lower_base.specs.Following.{Follows}
use Rattle.lower_base.specs.Growing.{IsFault}
use Rattle.lower_base.specs.Held.{AllApart, AreApart, AreBelow, SeatIsApart, StandAt}
use Rattle.lower_base.specs.Lowered.{Adds}
use Rattle.lower_base.specs.Names.{Name, names_view}
use Rattle.lower_base.specs.Placed.{StandsAt, World, state}
use Rattle.lower_stmt.specs.declared.callees.ProcCallee.{ProcCallee}
use Rattle.lower_stmt.specs.Acting.{ServesRuns}
use Rattle.lower_stmt.specs.AllowingRuns.{RunsKeepAllowed}
use Rattle.lower_stmt.specs.Calls.{HasRunRoutines}
use Rattle.lower_stmt.specs.Changing.{AreTyped, HoldsVars, IsOfNone, NamesApart}
use Rattle.lower_stmt.specs.Procedures.{Routines, routines_of}
use Rattle.lower_stmt.specs.StmtGrowing.{left_out_all}

-- ---- locals in a row

-- the cells of a seat lie among those from one to another
abbrev pub SeatLies : ℕ → ℕ → ℕ → Seat → Type 0
SeatLies from to size (Cell c) = (from ≤ c) × (c + size ≤ to)
SeatLies from to size (Tokens port first step) = Unit {0}

-- The cells of each local lie behind those of the locals and globals that come later in the row, before n, and apart
-- from those from low to high. No two globals share a cell.
abbrev pub AreLaid : List Name → ℕ → ℕ → ℕ → List Name → Type 0
AreLaid globals low high n [] =
    AreBelow n globals × NamesApart globals × AreTyped globals × AllApart low high globals
AreLaid globals low high n (x ∷ locals) =
    (c : ℕ) × SeatLies c n (scalars_of_type x.shape) x.seat × (c ≤ n) × IsType x.shape
    × SeatIsApart low high (scalars_of_type x.shape) x.seat × AreLaid globals low high c locals

-- a variable whose value stands at the seat of a name and is stored in the name's type
pub record HoldsVar (tokens : ℕ → List ℤ) (cells : List ℤ) (v : Var) (x : Name) : Type 0 where
  pub called : v.name ≡ x.text
  pub stored : (t : Shape) → v.kept ≡ Some t → t ≡ x.shape
  pub of_type : HasKind (kind_of_type x.shape) v.value
  pub stands : StandAt x.seat tokens cells (flat v.value)

-- each local of an environment, hidden or not, stands at the seat of the name at its place in the row
abbrev pub HoldLocals : List Name → (ℕ → List ℤ) → List ℤ → List Var → Type 0
HoldLocals [] tokens cells [] = Unit {0}
HoldLocals (x ∷ xs) tokens cells (v ∷ vs) =
    HoldsVar tokens cells v x × HoldLocals xs tokens cells vs
HoldLocals xs tokens cells vs = ⊥

-- the cells and the tokens hold the locals of an environment and its globals
abbrev pub HoldsBody : List Name → List Name → (ℕ → List ℤ) → List ℤ → Env → Type 0
HoldsBody globals locals tokens cells env = HoldLocals locals tokens cells env.locals
    × HoldsVars globals tokens cells (outside env.globals)

-- ---- what code does

-- of the cells, only those of names, of the names outside, hidden or not, those from n to m and those from low to high
-- may have changed
pub record KeepsOver (names outer : List Name) (n m low high : ℕ) (before after : List ℤ) : Type 0 where
  pub size : length after ≡ length before
  pub cell : (c : ℕ) → (c < n) ⊎ (m ≤ c) → AreApart c (c + 1) low high → IsOfNone names c → IsOfNone outer c
      → slice_get after c ≡ slice_get before c

-- The run ends by a trap. Cells of names may hold what was assigned before it.
pub record CutShort (w : World) (names outer : List Name) (n m : ℕ) (s : State) (c : Trap) : Type 0 where
  pub cells : List ℤ
  pub ends : Ends w.code w.tokens s (outcome.Trap c) cells
  pub keeps : KeepsOver names outer n m w.low w.high s.cells cells

-- The run goes on to a place with the operands that there were, with so many turns left and with cells that hold an
-- environment.
pub record GoesOn (w : World) (globals locals : List Name) (n m : ℕ) (s : State) (end : ℕ)
    (env : Env) (left : ℕ) : Type 0 where
  pub cells : List ℤ
  pub reaches : Reaches w.code w.tokens s (state end s.stack s.frames cells left)
  pub keeps : KeepsOver (locals ++ globals) globals n m w.low w.high s.cells cells
  pub holds : HoldsBody globals locals w.tokens cells env

-- how a run ends that goes as an execution does
abbrev pub EndsOn : World → List Name → List Name → ℕ → ℕ → State → ℕ → Out Env → Outcome → List ℤ → Type 0
EndsOn w globals locals n m s end (Gives env left) o last =
    (cells : List ℤ) × KeepsOver (locals ++ globals) globals n m w.low w.high s.cells cells
    × HoldsBody globals locals w.tokens cells env
    × Ends w.code w.tokens (state end s.stack s.frames cells left) o last
EndsOn w globals locals n m s end (Traps c) o last = (o ≡ outcome.Trap c)
    × KeepsOver (locals ++ globals) globals n m w.low w.high s.cells last
EndsOn w globals locals n m s end Lacks o last = Unit {0}
EndsOn w globals locals n m s end Clashes o last = Unit {0}

-- what is round statements that call: the routines are there, and the cells hold the locals and the globals
pub record IsReady (rs : Routines) (w : World) (runs : Runs) (globals locals : List Name) (n m : ℕ)
    (cells : List ℤ) (env : Env) : Type 0 where
  pub functions : Serves w globals rs.functions
  pub procedures : ServesRuns w runs globals rs.procedures
  pub laid : AreLaid globals w.low w.high n locals
  pub apart : AreApart n m w.low w.high
  pub room : m ≤ length cells
  pub routine_room : w.high ≤ length cells
  pub holds : HoldsBody globals locals w.tokens cells env

-- Wherever these instructions stand, in code that has the routines, they do what executing the statements does, as
-- `Executes` says it of statements that call nothing; the names are locals and then globals.
pub record ExecutesCalling (rs : Routines) (names : List Name) (body : Tree) (base n m : ℕ)
    (code : List Instr) : Type 0 where
  pub goes : (w : World) (runs : Runs) (globals locals : List Name) (env : Env) (stack : List ℤ) (frames : List ℕ)
      (cells : List ℤ) (left : ℕ)
      → names ≡ locals ++ globals → StandsAt w.code.instrs base code
      → IsReady rs w runs globals locals n m cells env
      → Follows (exec_all body w.calls runs env left)
      (GoesOn w globals locals n m (state base stack frames cells left) (base + length code))
      (CutShort w (locals ++ globals) globals n m (state base stack frames cells left))
  pub only : (w : World) (runs : Runs) (globals locals : List Name) (env : Env) (stack : List ℤ) (frames : List ℕ)
      (cells : List ℤ) (left : ℕ)
      → names ≡ locals ++ globals → StandsAt w.code.instrs base code
      → IsReady rs w runs globals locals n m cells env
      → (o : Outcome) (last : List ℤ)
      → Ends w.code w.tokens (state base stack frames cells left) o last
      → EndsOn w globals locals n m (state base stack frames cells left) (base + length code)
      (exec_all body w.calls runs env left) o last

-- The instructions execute the statements. In any code that has the routines they fit where they stand, at any height.
-- They write no cells but their own, those of formals and those of names that may be assigned, and read no tokens but
-- those of names.
pub record IsExecutedCalling (rs : Routines) (names : List Name) (body : Tree) (base n : ℕ)
    (code : List Instr) (m : ℕ) : Type 0 where
  pub cells : n ≤ m
  pub executes : ExecutesCalling rs names body base n m code
  pub fits : (whole : Code) (callable h : ℕ) → HasRunRoutines whole callable m rs
      → StandsAt whole.instrs base code
      → Fits whole callable m base h code h (base + length code) h
  pub allowed : RunsKeepAllowed rs names body n code

-- ---- what a call does

abbrev pub AddsCalling : List Callee → List ProcCallee → List Named → Tree → Draft → Draft → Type 0
AddsCalling callees procedures names body old new =
    Adds (IsExecutedCalling (routines_of callees procedures) (names_view names) body) old new

abbrev pub AreWholeCalling : List Callee → List ProcCallee → List Named → Tree → Type 0
AreWholeCalling callees procedures names body =
    left_out_all (routines_of callees procedures) (names_view names) body ≡ None

abbrev pub IsFaultCalling : List Callee → List ProcCallee → List Named → Tree → Draft → LowerFault → Type 0
IsFaultCalling callees procedures names body draft fault =
    IsFault (left_out_all (routines_of callees procedures) (names_view names) body) draft fault
