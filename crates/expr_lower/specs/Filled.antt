-- Runs of code that fill cells as an evaluation goes.
-- Trusted: part of what a promise means.
use Rattle.std.specs.Prelude.{◌≡◌, ℕ, ◌+◌, ◌≤◌, ℤ, List, length}
use Rattle.cal_ast.specs.Tree.{Tree}
use Rattle.cal_model.specs.Value.{Shape, Value}
use Rattle.cal_model.specs.Outcome.{Out, Gives, Traps, Lacks, Clashes}
use Rattle.cal_model.specs.Env.{Env}
use Rattle.cal_model.specs.Expression.{eval}
use Rattle.code_ir.specs.declared.instr.Instr.{Instr}
use Rattle.code_ir.specs.declared.outcome.Outcome.{Outcome}
use Rattle.code_ir.specs.declared.outcome.Outcome.TheVariants as outcome
use Rattle.code_ir.specs.Running.{State, Reaches, Ends}
use Rattle.lower_base.specs.declared.names.Seat.TheVariants.{Cell}
use Rattle.lower_base.specs.Callees.{Function}
use Rattle.lower_base.specs.Calling.{Prepared, Serves}
use Rattle.lower_base.specs.Flat.{flat}
use Rattle.lower_base.specs.Following.{CutsOff, Follows}
use Rattle.lower_base.specs.Held.{AreApart, Keeps, StandAt}
use Rattle.lower_base.specs.Names.{Name}
use Rattle.lower_base.specs.Placed.{StandsAt, World, state}
use Rattle.expr_lower.specs.Shaped.{IsShaped}

-- The run goes on to a place, with the numbers of a value in the cells from c on and with so many turns left. Of the
-- cells, it used those from n to m.
pub record Fills (w : World) (n m c : ℕ) (t : Shape) (s : State) (end : ℕ) (v : Value) (left : ℕ) :
    Type 0 where
  pub cells : List ℤ
  pub reaches : Reaches w.code w.tokens s (state end s.stack s.frames cells left)
  pub keeps : Keeps n m w.low w.high s.cells cells
  pub shaped : IsShaped t v
  pub stands : StandAt (Cell c) w.tokens cells (flat v)

-- How a run ends that goes as an evaluation does: if that gives a value, as it ends from the place that it goes
-- on to; if it traps, by that trap.
abbrev pub EndsFilled : World → ℕ → State → ℕ → Out Value → Outcome → List ℤ → Type 0
EndsFilled w c s end (Gives v left) o last =
    (cells : List ℤ) × StandAt (Cell c) w.tokens cells (flat v)
    × Ends w.code w.tokens (state end s.stack s.frames cells left) o last
EndsFilled w c s end (Traps d) o last = o ≡ outcome.Trap d
EndsFilled w c s end Lacks o last = Unit {0}
EndsFilled w c s end Clashes o last = Unit {0}

-- Wherever these instructions stand, in code that has the routines, they do what evaluating the expression does: they
-- fill the cells from c on with the value or trap, after as many turns; and a run of them has no other end. Of the
-- cells, they use those from c to m, which are none of the names, and those of routines.
pub record FillsWith (fs : List Function) (names : List Name) (e : Tree) (t : Shape) (c base m : ℕ)
    (code : List Instr) : Type 0 where
  pub goes : (w : World) (globals : List Name) (env : Env) (stack : List ℤ) (frames : List ℕ)
      (cells : List ℤ) (left : ℕ)
      → StandsAt w.code.instrs base code → Serves w globals fs
      → Prepared w globals names fs c cells env → AreApart c m w.low w.high → m ≤ length cells
      → Follows (eval e w.calls env left)
      (Fills w c m c t (state base stack frames cells left) (base + length code))
      (CutsOff w c m (state base stack frames cells left))
  pub only : (w : World) (globals : List Name) (env : Env) (stack : List ℤ) (frames : List ℕ)
      (cells : List ℤ) (left : ℕ)
      → StandsAt w.code.instrs base code → Serves w globals fs
      → Prepared w globals names fs c cells env → AreApart c m w.low w.high → m ≤ length cells
      → (o : Outcome) (last : List ℤ)
      → Ends w.code w.tokens (state base stack frames cells left) o last
      → EndsFilled w c (state base stack frames cells left) (base + length code)
      (eval e w.calls env left) o last
