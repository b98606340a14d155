-- Runs of code that go as an execution does.
-- Trusted: part of what a promise means.
use Rattle.std.specs.Prelude.{◌≡◌, ◌≤◌, ℕ, ◌+◌, ℤ, List, length}
use Rattle.rvc_base.specs.declared.trap.Trap.{Trap}
use Rattle.cal_ast.specs.Tree.{Tree}
use Rattle.cal_model.specs.Outcome.{Out, Gives, Traps, Lacks, Clashes}
use Rattle.cal_model.specs.Env.{Env}
use Rattle.cal_model.specs.Statement.{Runs, exec_all}
use Rattle.code_ir.specs.declared.instr.Instr.{Instr}
use Rattle.code_ir.specs.declared.outcome.Outcome.{Outcome}
use Rattle.code_ir.specs.declared.outcome.Outcome.TheVariants as outcome
use Rattle.code_ir.specs.Code.{Code}
use Rattle.code_ir.specs.Running.{State, Reaches, Ends}
use Rattle.lower_stmt.specs.Changing.{HoldsVars, KeepsBut}
use Rattle.lower_base.specs.Fitting.{Fits}
use Rattle.lower_base.specs.Following.{Follows}
use Rattle.lower_base.specs.Held.{AllApart, AreApart}
use Rattle.lower_base.specs.Names.{Name}
use Rattle.lower_base.specs.Placed.{StandsAt, World, state}

-- The run goes on to a place with the operands that there were, with so many turns left and with cells that hold an
-- environment.
pub record Arrives (w : World) (names : List Name) (n m : ℕ) (s : State) (end : ℕ) (env : Env) (left : ℕ) : Type 0 where
  pub cells : List ℤ
  pub reaches : Reaches w.code w.tokens s (state end s.stack s.frames cells left)
  pub keeps : KeepsBut names n m w.low w.high s.cells cells
  pub holds : HoldsVars names w.tokens cells env

-- The run ends by a trap. Cells of the names may hold what was assigned before it.
pub record BreaksOff (w : World) (names : List Name) (n m : ℕ) (s : State) (c : Trap) : Type 0 where
  pub cells : List ℤ
  pub ends : Ends w.code w.tokens s (outcome.Trap c) cells
  pub keeps : KeepsBut names n m w.low w.high s.cells cells

-- How a run ends that goes as an execution does: if that gives an environment, as it ends from the place that it
-- goes on to, with cells that hold this environment; if it traps, by that trap.
abbrev pub EndsLike : World → List Name → ℕ → ℕ → State → ℕ → Out Env → Outcome → List ℤ → Type 0
EndsLike w names n m s end (Gives env left) o last =
    (cells : List ℤ) × KeepsBut names n m w.low w.high s.cells cells
    × HoldsVars names w.tokens cells env
    × Ends w.code w.tokens (state end s.stack s.frames cells left) o last
EndsLike w names n m s end (Traps c) o last = (o ≡ outcome.Trap c)
    × KeepsBut names n m w.low w.high s.cells last
EndsLike w names n m s end Lacks o last = Unit {0}
EndsLike w names n m s end Clashes o last = Unit {0}

-- Wherever these instructions stand, with cells that hold an environment, they do what executing the statements
-- does: they leave cells that hold the environment that comes of it, or trap, after as many turns; and a run of them
-- has no other end. There are at least m cells; of these, they change only those of the names and those from n to m.
pub record Executes (names : List Name) (body : Tree) (base n m : ℕ) (code : List Instr) :
    Type 0 where
  pub goes : (w : World) (runs : Runs) (env : Env) (stack : List ℤ) (frames : List ℕ)
      (cells : List ℤ) (left : ℕ)
      → StandsAt w.code.instrs base code → AllApart w.low w.high names → AreApart n m w.low w.high
      → m ≤ length cells → HoldsVars names w.tokens cells env
      → Follows (exec_all body w.calls runs env left)
      (Arrives w names n m (state base stack frames cells left) (base + length code))
      (BreaksOff w names n m (state base stack frames cells left))
  pub only : (w : World) (runs : Runs) (env : Env) (stack : List ℤ) (frames : List ℕ)
      (cells : List ℤ) (left : ℕ)
      → StandsAt w.code.instrs base code → AllApart w.low w.high names → AreApart n m w.low w.high
      → m ≤ length cells → HoldsVars names w.tokens cells env
      → (o : Outcome) (last : List ℤ)
      → Ends w.code w.tokens (state base stack frames cells left) o last
      → EndsLike w names n m (state base stack frames cells left) (base + length code)
      (exec_all body w.calls runs env left) o last

-- The instructions execute the statements. In any code in which they stand they fit, at any height.
pub record IsExecuted (names : List Name) (body : Tree) (base n : ℕ) (code : List Instr) (m : ℕ) :
    Type 0 where
  pub cells : n ≤ m
  pub executes : Executes names body base n m code
  pub fits : (whole : Code) (callable h : ℕ) → StandsAt whole.instrs base code
      → Fits whole callable m base h code h (base + length code) h
