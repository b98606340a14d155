-- Runs of code that go as an evaluation does.
-- Trusted but for `Chooses`: part of what a promise means.
use Rattle.std.specs.Prelude.{◌≡◌, ℕ, ◌+◌, ◌<◌, ◌≤◌, ℤ, if◌then◌else◌, List, [], ◌∷◌, length}
use Rattle.rvc_base.specs.declared.trap.Trap.{Trap}
use Rattle.rvc_base.specs.Arithmetic.{is_true}
use Rattle.cal_ast.specs.Tree.{Tree}
use Rattle.cal_model.specs.Value.{Value}
use Rattle.cal_model.specs.Outcome.{Out, Gives, Traps, Lacks, Clashes}
use Rattle.cal_model.specs.Env.{Env}
use Rattle.cal_model.specs.Expression.{eval}
use Rattle.code_ir.specs.declared.instr.Instr.{Instr}
use Rattle.code_ir.specs.declared.outcome.Outcome.{Outcome}
use Rattle.code_ir.specs.declared.outcome.Outcome.TheVariants as outcome
use Rattle.code_ir.specs.Running.{State, Reaches, Ends}
use Rattle.lower_base.specs.Flat.{flat}
use Rattle.lower_base.specs.Held.{AllApart, AreApart, Holds, Keeps}
use Rattle.lower_base.specs.Names.{Name}
use Rattle.lower_base.specs.Placed.{StandsAt, World, state}

-- What is said of an outcome: one thing if it gives something, with so many turns left, another if it traps.
-- Nothing is said if a name lacks or a part clashes, which never comes if the whole has a kind.
abbrev pub Follows : {A : Type 0} → Out A → (A → ℕ → Type 0) → (Trap → Type 0) → Type 0
Follows (Gives v left) G T = G v left
Follows (Traps c) G T = T c
Follows Lacks G T = Unit {0}
Follows Clashes G T = Unit {0}

-- The run goes on to a place with the one number of a value on the stack, and with so many turns left.
pub record Pushes (w : World) (n m : ℕ) (s : State) (end : ℕ) (v : Value) (left : ℕ) : Type 0 where
  pub number : ℤ
  pub is : flat v ≡ number ∷ []
  pub cells : List ℤ
  pub reaches : Reaches w.code w.tokens s (state end (number ∷ s.stack) s.frames cells left)
  pub keeps : Keeps n m w.low w.high s.cells cells

-- The run goes on to one place if a value is true, and to another if it is false.
pub record Chooses (w : World) (n m : ℕ) (s : State) (here there : ℕ) (v : Value) (left : ℕ) :
    Type 0 where
  pub number : ℤ
  pub is : flat v ≡ number ∷ []
  pub cells : List ℤ
  pub reaches : Reaches w.code w.tokens s
      (state (if is_true number then here else there) s.stack s.frames cells left)
  pub keeps : Keeps n m w.low w.high s.cells cells

-- The run ends by a trap.
pub record CutsOff (w : World) (n m : ℕ) (s : State) (c : Trap) : Type 0 where
  pub cells : List ℤ
  pub ends : Ends w.code w.tokens s (outcome.Trap c) cells
  pub keeps : Keeps n m w.low w.high s.cells cells

-- How a run ends that goes as an evaluation does: if that gives a value, as it ends from the place that it goes
-- on to; if it traps, by that trap.
abbrev pub EndsAs : World → State → ℕ → Out Value → Outcome → List ℤ → Type 0
EndsAs w s end (Gives v left) o last =
    (number : ℤ) × (cells : List ℤ) × (flat v ≡ number ∷ [])
    × Ends w.code w.tokens (state end (number ∷ s.stack) s.frames cells left) o last
EndsAs w s end (Traps c) o last = o ≡ outcome.Trap c
EndsAs w s end Lacks o last = Unit {0}
EndsAs w s end Clashes o last = Unit {0}

-- the cells from n to m, if there are any, are there, and are none of routines
abbrev pub MayUse : World → ℕ → ℕ → List ℤ → Type 0
MayUse w n m cells = n < m → AreApart n m w.low w.high × (m ≤ length cells)

-- Wherever these instructions stand, with cells that hold an environment, they do what evaluating the expression
-- does: they push the value or trap, after as many turns; and a run of them has no other end. They use the cells
-- from n to m.
pub record Evaluates (names : List Name) (e : Tree) (base n m : ℕ) (code : List Instr) :
    Type 0 where
  pub goes : (w : World) (env : Env) (stack : List ℤ) (frames : List ℕ) (cells : List ℤ) (left : ℕ)
      → StandsAt w.code.instrs base code → AllApart w.low w.high names
      → Holds names w.tokens cells env → MayUse w n m cells
      → Follows (eval e w.calls env left)
      (Pushes w n m (state base stack frames cells left) (base + length code))
      (CutsOff w n m (state base stack frames cells left))
  pub only : (w : World) (env : Env) (stack : List ℤ) (frames : List ℕ) (cells : List ℤ) (left : ℕ)
      → StandsAt w.code.instrs base code → AllApart w.low w.high names
      → Holds names w.tokens cells env → MayUse w n m cells
      → (o : Outcome) (last : List ℤ)
      → Ends w.code w.tokens (state base stack frames cells left) o last
      → EndsAs w (state base stack frames cells left) (base + length code)
      (eval e w.calls env left) o last
