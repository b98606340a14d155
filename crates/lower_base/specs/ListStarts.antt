-- Code that starts a local that is a list, whatever it looks like.
-- Trusted: part of what a promise means.
use Rattle.std.specs.Prelude.{ℕ, ◌+◌, ◌≤◌, ℤ, List, length}
use Rattle.cal_model.specs.Actor.{Local}
use Rattle.cal_model.specs.Call.{first_value}
use Rattle.cal_model.specs.Env.{Env}
use Rattle.cal_model.specs.Value.{Shape, Value, HasKind, kind_of_type, scalars_of_type}
use Rattle.code_ir.specs.declared.instr.Instr.{Instr}
use Rattle.code_ir.specs.Code.{Code}
use Rattle.code_ir.specs.Running.{State, Reaches}
use Rattle.lower_base.specs.declared.names.Seat.TheVariants.{Cell}
use Rattle.lower_base.specs.Callees.{Function}
use Rattle.lower_base.specs.Calling.{HasRoutines, Prepared, Serves}
use Rattle.lower_base.specs.Allowing.{KeepsAllowed}
use Rattle.lower_base.specs.Fitting.{Fits}
use Rattle.lower_base.specs.Flat.{flat}
use Rattle.lower_base.specs.Following.{CutsOff, Follows}
use Rattle.lower_base.specs.Held.{AreApart, AreBelow, Keeps, StandAt}
use Rattle.lower_base.specs.Names.{Name}
use Rattle.lower_base.specs.Placed.{StandsAt, World, state}

-- The run goes on to a place, with the numbers of a value of a type in the cells from c on and with so many turns left.
-- Of the cells, it used those from c to m.
pub record Starts (w : World) (t : Shape) (c m : ℕ) (s : State) (end : ℕ) (v : Value) (left : ℕ) : Type 0 where
  pub cells : List ℤ
  pub reaches : Reaches w.code w.tokens s (state end s.stack s.frames cells left)
  pub keeps : Keeps c m w.low w.high s.cells cells
  pub kind : HasKind (kind_of_type t) v
  pub stands : StandAt (Cell c) w.tokens cells (flat v)

-- Wherever these instructions stand, in code that has the routines, they do what starting the local does: they put its
-- first value, stored in its type, into the cells from c on, or trap, after as many turns; and they fit there. Of the
-- cells, they use those from c to m and those of routines; of the tokens, they read those of names.
pub record StartsList (fs : List Function) (names : List Name) (x : Local) (c base : ℕ)
    (code : List Instr) (m : ℕ) : Type 0 where
  pub cells : c + scalars_of_type x.shape ≤ m
  pub starts : AreBelow c names
      → (w : World) (globals : List Name) (env : Env) (stack : List ℤ) (frames : List ℕ)
      (cells : List ℤ) (left : ℕ)
      → StandsAt w.code.instrs base code → Serves w globals fs
      → Prepared w globals names fs c cells env → AreApart c m w.low w.high → m ≤ length cells
      → Follows (first_value x.shape x.start w.calls env left)
      (Starts w x.shape c m (state base stack frames cells left) (base + length code))
      (CutsOff w c m (state base stack frames cells left))
  pub fits : (whole : Code) (callable limit : ℕ) → HasRoutines whole callable limit fs
      → AreBelow c names → m ≤ limit → StandsAt whole.instrs base code
      → Fits whole callable limit base 0 code 0 (base + length code) 0
  pub allowed : KeepsAllowed fs names c code
