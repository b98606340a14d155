-- Routines that do what functions do, and code of expressions that calls them.
-- Trusted: part of what a promise means.
use Rattle.std.specs.Prelude.{◌≡◌, ℕ, ◌+◌, ◌<◌, ◌≤◌, ℤ, List, [], ◌∷◌, length, Some, slice_get}
use Rattle.rvc_base.specs.declared.scalar.Scalar.{Scalar}
use Rattle.rvc_base.specs.Storing.{IsSize}
use Rattle.cal_ast.specs.Tree.{Tree}
use Rattle.cal_model.specs.Value.{Single, Value, Values, Nil, Cons, HasKind, kind_of_scalar, stored}
use Rattle.cal_model.specs.Env.{Var, Env}
use Rattle.cal_model.specs.Expression.{eval}
use Rattle.code_ir.specs.declared.instr.Instr.{Instr}
use Rattle.code_ir.specs.declared.instr.Routine.{Routine}
use Rattle.code_ir.specs.declared.outcome.Outcome.{Outcome}
use Rattle.code_ir.specs.Code.{Code, results_of}
use Rattle.code_ir.specs.Running.{State, Reaches, Ends}
use Rattle.lower_base.specs.declared.callees.Formal.{Formal}
use Rattle.lower_base.specs.Callees.{Function, function_named}
use Rattle.lower_base.specs.Allowing.{KeepsAllowed}
use Rattle.lower_base.specs.Fitting.{Fits}
use Rattle.lower_base.specs.Flat.{flat}
use Rattle.lower_base.specs.Following.{CutsOff, EndsAs, Follows, MayUse, Pushes}
use Rattle.lower_base.specs.Held.{AllApart, AreBelow, Holds, Keeps}
use Rattle.lower_base.specs.Names.{Name}
use Rattle.lower_base.specs.Placed.{StandsAt, World, state}

-- ---- formals

-- the formals have cells side by side, from c on
abbrev pub AreInRow : ℕ → List Formal → Type 0
AreInRow c [] = Unit {0}
AreInRow c (x ∷ xs) = (x.cell ≡ c) × AreInRow (c + 1) xs

abbrev pub AreOfSizes : List Formal → Type 0
AreOfSizes [] = Unit {0}
AreOfSizes (x ∷ xs) = IsSize x.kind × AreOfSizes xs

-- the cells of the formals lie side by side, from low to high, and their types have sizes that are allowed
pub record HasFormals (low high : ℕ) (f : Function) : Type 0 where
  pub first : ℕ
  pub row : AreInRow first f.formals
  pub low_end : low ≤ first
  pub high_end : first + length f.formals ≤ high
  pub sizes : AreOfSizes f.formals

-- an argument, stored in a type, stands in a cell
pub record HoldsArgument (x : Formal) (cells : List ℤ) (v : Value) : Type 0 where
  pub kind : HasKind (kind_of_scalar x.kind) (stored (Single x.kind) v)
  pub number : ℤ
  pub is : flat (stored (Single x.kind) v) ≡ number ∷ []
  pub there : slice_get cells x.cell ≡ Some number

-- the cells of the formals hold the arguments
abbrev pub HoldArguments : List Formal → List ℤ → Values → Type 0
HoldArguments [] cells Nil = Unit {0}
HoldArguments (x ∷ xs) cells (Cons v vs) = HoldsArgument x cells v × HoldArguments xs cells vs
HoldArguments xs cells vs = ⊥

-- ---- routines

-- what a function sees at first, but for its arguments
abbrev pub outside : List Var → Env
outside globals = record { globals = globals; locals = [] }

-- The run goes on to a place, with one frame less and with the one number of a value of a type on the stack. It uses
-- only the cells of routines.
pub record Returns (w : World) (t : Scalar) (s : State) (back : ℕ) (frames : List ℕ) (v : Value)
    (left : ℕ) : Type 0 where
  pub kind : HasKind (kind_of_scalar t) v
  pub number : ℤ
  pub is : flat v ≡ number ∷ []
  pub cells : List ℤ
  pub reaches : Reaches w.code w.tokens s (state back (number ∷ s.stack) frames cells left)
  pub keeps : Keeps 0 0 w.low w.high s.cells cells

-- The routine of a function does what the function does: called with cells that hold the globals and the arguments,
-- it returns the value with as many turns left, or traps.
pub record Answers (w : World) (globals : List Name) (text : List ℕ) (f : Function) : Type 0 where
  pub formals : HasFormals w.low w.high f
  pub routine : Routine
  pub is : slice_get w.code.routines f.routine ≡ Some routine
  pub goes : (vars : List Var) (args : Values) (stack : List ℤ) (back : ℕ) (frames : List ℕ)
      (cells : List ℤ) (left : ℕ)
      → w.high ≤ length cells → Holds globals w.tokens cells (outside vars)
      → HoldArguments f.formals cells args
      → Follows (w.calls vars text args left)
      (Returns w f.result (state routine.start stack (back ∷ frames) cells left) back frames)
      (CutsOff w 0 0 (state routine.start stack (back ∷ frames) cells left))

-- each of these functions has a routine in the code
abbrev pub Serves : World → List Name → List Function → Type 0
Serves w globals fs = (text : List ℕ) (f : Function) → function_named text fs ≡ Some f
    → Answers w globals text f

-- ---- code that calls

-- the cells of routines are there, if there are functions
abbrev pub HasRoom : List Function → ℕ → List ℤ → Type 0
HasRoom fs high cells = 0 < length fs → high ≤ length cells

-- The names and the globals have cells below n and outside those of routines, and the cells hold what the names mean in
-- an environment, and what the globals do.
pub record Prepared (w : World) (globals names : List Name) (fs : List Function) (n : ℕ)
    (cells : List ℤ) (env : Env) : Type 0 where
  pub apart : AllApart w.low w.high names
  pub globals_apart : AllApart w.low w.high globals
  pub globals_below : AreBelow n globals
  pub holds : Holds names w.tokens cells env
  pub holds_globals : Holds globals w.tokens cells (outside env.globals)
  pub room : HasRoom fs w.high cells

-- Wherever these instructions stand, in code that has the routines, they do what evaluating the expression does: they
-- push the value or trap, after as many turns; and a run of them has no other end. Of the cells, they use those from n
-- to m and those of routines.
pub record EvaluatesWith (fs : List Function) (names : List Name) (e : Tree) (base n m : ℕ)
    (code : List Instr) : Type 0 where
  pub goes : (w : World) (globals : List Name) (env : Env) (stack : List ℤ) (frames : List ℕ)
      (cells : List ℤ) (left : ℕ)
      → StandsAt w.code.instrs base code → Serves w globals fs
      → Prepared w globals names fs n cells env → MayUse w n m cells
      → Follows (eval e w.calls env left)
      (Pushes w n m (state base stack frames cells left) (base + length code))
      (CutsOff w n m (state base stack frames cells left))
  pub only : (w : World) (globals : List Name) (env : Env) (stack : List ℤ) (frames : List ℕ)
      (cells : List ℤ) (left : ℕ)
      → StandsAt w.code.instrs base code → Serves w globals fs
      → Prepared w globals names fs n cells env → MayUse w n m cells
      → (o : Outcome) (last : List ℤ)
      → Ends w.code w.tokens (state base stack frames cells left) o last
      → EndsAs w (state base stack frames cells left) (base + length code)
      (eval e w.calls env left) o last

-- code has the routines of these functions, which may be called there and leave one number each, and cells for their
-- arguments
abbrev pub HasRoutines : Code → ℕ → ℕ → List Function → Type 0
HasRoutines whole callable limit fs = (text : List ℕ) (f : Function)
    → function_named text fs ≡ Some f
    → (f.routine < callable) × (results_of whole f.routine ≡ 1) × HasFormals 0 limit f

-- The instructions evaluate the expression and push its value. In any code that has the routines they fit if one
-- operand more fits. They write no cells but their own and those of formals, and read no tokens but those of names.
pub record IsLoweredWith (fs : List Function) (names : List Name) (e : Tree) (base n : ℕ)
    (code : List Instr) (m : ℕ) : Type 0 where
  pub cells : n ≤ m
  pub evaluates : EvaluatesWith fs names e base n m code
  pub fits : (whole : Code) (callable h : ℕ) → HasRoutines whole callable m fs
      → StandsAt whole.instrs base code
      → Fits whole callable m base h code (h + 1) (base + length code) (h + 1)
  pub allowed : KeepsAllowed fs names n code
