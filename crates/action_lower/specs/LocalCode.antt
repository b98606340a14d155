-- Code of the locals of an action, whose starts may call functions, and what it does.
-- Trusted: part of what a promise means.
use Rattle.std.specs.Prelude.{◌≡◌, ℕ, ◌+◌, ℤ, List, [], ◌∷◌, ◌++◌, length, map, Option, None}
use Rattle.rvc_base.specs.declared.scalar.Scalar.{Scalar}
use Rattle.cal_ast.specs.View.{optional}
use Rattle.cal_model.specs.declared.bound.BoundLocal.{BoundLocal}
use Rattle.cal_model.specs.Actor.{Local}
use Rattle.cal_model.specs.Call.{declared}
use Rattle.cal_model.specs.Env.{Env}
use Rattle.cal_model.specs.Outcome.{Out, Gives, Traps, Lacks, Clashes}
use Rattle.cal_model.specs.Statement.{Runs}
use Rattle.cal_model.specs.Value.{Single, IsType, scalars_of_type}
use Rattle.cal_model.specs.View.{local_view}
use Rattle.code_ir.specs.declared.instr.Instr.{Instr}
use Rattle.code_ir.specs.declared.outcome.Outcome.{Outcome}
use Rattle.code_ir.specs.declared.outcome.Outcome.TheVariants as outcome
use Rattle.code_ir.specs.Running.{State, Reaches, Ends}
use Rattle.lower_base.specs.declared.draft.Draft.{Draft}
use Rattle.lower_base.specs.declared.callees.Callee.{Callee}
use Rattle.lower_base.specs.declared.fault.LowerFault.{LowerFault}
use Rattle.lower_base.specs.declared.names.Named.{Named}
use Rattle.lower_base.specs.Callees.{Function, functions_view}
use Rattle.lower_base.specs.Following.{Follows}
use Rattle.lower_base.specs.Growing.{IsFault, ◌or_else◌}
use Rattle.lower_base.specs.Held.{Keeps}
use Rattle.lower_base.specs.Lowered.{Adds}
use Rattle.lower_base.specs.Names.{Name, local, names_view}
use Rattle.lower_base.specs.Placed.{StandsAt, World, state}
use Rattle.lower_base.specs.Routining.{LocalsSized}
use Rattle.lower_base.specs.Starting.{IsStart}
use Rattle.lower_stmt.specs.Bodies.{AreLaid, CutShort, HoldsBody, IsReady, KeepsOver}
use Rattle.lower_stmt.specs.ListStarting.{IsListStart, left_out_local, local_of}
use Rattle.lower_stmt.specs.Procedures.{Routines}

-- ---- code

-- Code of locals, one after the other, and the names that are seen behind them: each stands in cells of its own, in
-- front of the names that its start sees.
pub data AreStarted (fs : List Function) :
    List Name → List Local → List Name → ℕ → ℕ → List Instr → ℕ → Type 0 where
  none_started : (names : List Name) (base n : ℕ) → AreStarted fs names [] names base n [] n
  start_more : (names behind : List Name) (x : Local) (others : List Local) (t : Scalar)
      (base n k m : ℕ) (a b : List Instr)
      → x.shape ≡ Single t → IsStart fs names t n (optional x.start) base (n + 1) a k
      → AreStarted fs (local x.name t n ∷ names) others behind (base + length a) k b m
      → AreStarted fs names (x ∷ others) behind base n (a ++ b) m
  list_more : (names behind : List Name) (x : Local) (others : List Local) (base n k m : ℕ)
      (a b : List Instr)
      → IsType x.shape
      → IsListStart fs names x.shape n (optional x.start) base (n + scalars_of_type x.shape) a k
      → AreStarted fs (local_of x.name x.shape n ∷ names) others behind (base + length a) k b m
      → AreStarted fs names (x ∷ others) behind base n (a ++ b) m

-- ---- what a run of it leaves

-- The run goes on to a place with the operands that there were, with so many turns left, and with cells that hold an
-- environment. The names that are seen there are locals whose cells lie below m, in a row, and then the globals. Of
-- the cells, only those from n to m and those of routines may have changed.
pub record Starts (w : World) (globals behind : List Name) (n m : ℕ) (s : State) (end : ℕ)
    (env : Env) (left : ℕ) : Type 0 where
  pub locals : List Name
  pub are : behind ≡ locals ++ globals
  pub cells : List ℤ
  pub reaches : Reaches w.code w.tokens s (state end s.stack s.frames cells left)
  pub keeps : Keeps n m w.low w.high s.cells cells
  pub laid : AreLaid globals w.low w.high m locals
  pub holds : HoldsBody globals locals w.tokens cells env

-- how a run ends that goes as declaring locals does
abbrev pub EndsStarted : World → List Name → List Name → List Name → ℕ → ℕ → State → ℕ → Out Env
    → Outcome → List ℤ → Type 0
EndsStarted w globals names behind n m s end (Gives env left) o last =
    (p : Starts w globals behind n m s end env left)
    × Ends w.code w.tokens (state end s.stack s.frames p.cells left) o last
EndsStarted w globals names behind n m s end (Traps c) o last = (o ≡ outcome.Trap c)
    × KeepsOver names globals n m w.low w.high s.cells last
EndsStarted w globals names behind n m s end Lacks o last = Unit {0}
EndsStarted w globals names behind n m s end Clashes o last = Unit {0}

-- Wherever these instructions stand, in code that has the routines, they do what declaring the locals does: they leave
-- cells that hold the environment that comes of it, or trap, after as many turns; and a run of them has no other end.
pub record StartsAs (rs : Routines) (names : List Name) (xs : List Local) (behind : List Name)
    (base n m : ℕ) (code : List Instr) : Type 0 where
  pub goes : (w : World) (runs : Runs) (globals locals : List Name) (env : Env) (stack : List ℤ) (frames : List ℕ)
      (cells : List ℤ) (left : ℕ)
      → names ≡ locals ++ globals → StandsAt w.code.instrs base code → LocalsSized xs
      → IsReady rs w runs globals locals n m cells env
      → Follows (declared xs w.calls env left)
      (Starts w globals behind n m (state base stack frames cells left) (base + length code))
      (CutShort w names globals n m (state base stack frames cells left))
  pub only : (w : World) (runs : Runs) (globals locals : List Name) (env : Env) (stack : List ℤ) (frames : List ℕ)
      (cells : List ℤ) (left : ℕ)
      → names ≡ locals ++ globals → StandsAt w.code.instrs base code → LocalsSized xs
      → IsReady rs w runs globals locals n m cells env
      → (o : Outcome) (last : List ℤ)
      → Ends w.code w.tokens (state base stack frames cells left) o last
      → EndsStarted w globals names behind n m (state base stack frames cells left)
      (base + length code) (declared xs w.calls env left) o last

-- ---- what a call does

-- the first part of the starts of locals for which no code is made; each of them sees those before it, and which cells
-- these have doesn't matter here
abbrev pub left_out_locals : List Function → List Name → List Local → Option ℕ
left_out_locals fs names [] = None
left_out_locals fs names (x ∷ xs) = left_out_local fs names x
    or_else left_out_locals fs (local_of x.name x.shape 0 ∷ names) xs

-- the code of locals was added to a draft, and the names that are seen behind them
abbrev pub AddsLocals : List Callee → List BoundLocal → List Named → List Named → Draft → Draft → Type 0
AddsLocals callees xs before behind old new =
    Adds (AreStarted (functions_view callees) (names_view before) (map local_view xs)
    (names_view behind)) old new

-- no part of them is left out
abbrev pub AreWholeLocals : List Callee → List Named → List BoundLocal → Type 0
AreWholeLocals callees names xs =
    left_out_locals (functions_view callees) (names_view names) (map local_view xs) ≡ None

-- why they aren't lowered
abbrev pub IsLocalsFault : List Callee → List Named → List BoundLocal → Draft → LowerFault → Type 0
IsLocalsFault callees names xs draft fault =
    IsFault (left_out_locals (functions_view callees) (names_view names) (map local_view xs)) draft
    fault

-- .. of one
abbrev pub IsWholeLocal : List Callee → List Named → BoundLocal → Type 0
IsWholeLocal callees names x =
    left_out_local (functions_view callees) (names_view names) (local_view x) ≡ None

abbrev pub IsLocalFault : List Callee → List Named → BoundLocal → Draft → LowerFault → Type 0
IsLocalFault callees names x draft fault =
    IsFault (left_out_local (functions_view callees) (names_view names) (local_view x)) draft fault
