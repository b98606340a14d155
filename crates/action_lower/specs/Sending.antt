-- Code of what an action sends: single values, or the items of lists in turn, stored in cells side by side.
-- Trusted: part of what a promise means.
use Rattle.std.specs.Prelude.{◌≡◌, ℕ, zero, suc, ◌+◌, ◌*◌, ℤ, List, [], ◌∷◌, ◌++◌, length, None, Some, slice_get}
use Rattle.rvc_base.specs.declared.scalar.Scalar.{Scalar}
use Rattle.rvc_base.specs.declared.scalar.Scalar.TheVariants as scalar
use Rattle.cal_ast.specs.Tree.{Tree, listed}
use Rattle.cal_model.specs.Actor.{Port, Output}
use Rattle.cal_model.specs.Env.{Env}
use Rattle.cal_model.specs.Firing.{outputs}
use Rattle.cal_model.specs.Outcome.{Out, Gives, Traps, Lacks, Clashes}
use Rattle.cal_model.specs.Selection.{kind_of_port}
use Rattle.cal_model.specs.Statement.{Runs}
use Rattle.cal_model.specs.Value.{Shape, Single, Many, scalars_of_type}
use Rattle.code_ir.specs.declared.instr.Instr.{Instr}
use Rattle.code_ir.specs.declared.instr.Instr.TheVariants as op
use Rattle.code_ir.specs.declared.outcome.Outcome.{Outcome}
use Rattle.code_ir.specs.declared.outcome.Outcome.TheVariants as outcome
use Rattle.code_ir.specs.Running.{State, Reaches, Ends}
use Rattle.lower_base.specs.Callees.{Function}
use Rattle.lower_base.specs.Coding.{IsCode}
use Rattle.lower_base.specs.Following.{Follows, CutsOff}
use Rattle.lower_base.specs.Held.{Keeps}
use Rattle.lower_base.specs.Names.{Name}
use Rattle.lower_base.specs.Placed.{StandsAt, World, state}
use Rattle.expr_lower.specs.Filling.{AreFills, IsFill}
use Rattle.lower_stmt.specs.Bodies.{IsReady}
use Rattle.lower_stmt.specs.Procedures.{Routines}

-- ---- code

-- code of a value that is sent: that of its expression, which may call functions, and a store into a cell, in the type of the port
pub record IsStored (fs : List Function) (names : List Name) (t : Scalar) (e : Tree) (c base n : ℕ)
    (code : List Instr) (m : ℕ) : Type 0 where
  pub body : List Instr
  pub is : code ≡ body ++ op.Store c (Some t) ∷ []
  pub coded : IsCode fs names e base n body m

-- code of values, one after the other, each of which goes into the next cell
pub data AreStored (fs : List Function) (names : List Name) (t : Scalar) :
    List Tree → ℕ → ℕ → ℕ → List Instr → ℕ → Type 0 where
  no_value : (c base n : ℕ) → AreStored fs names t [] c base n [] n
  value_more : (e : Tree) (es : List Tree) (c base n k m : ℕ) (a b : List Instr)
      → IsStored fs names t e c base n a k → AreStored fs names t es (c + 1) (base + length a) k b m
      → AreStored fs names t (e ∷ es) c base n (a ++ b) m

-- Code of an output of single values. It takes as many cells more as there are values, from the number of cells on
-- that there were before it.
pub record IsOutputCode (fs : List Function) (names : List Name) (ports : List Port) (o : Output)
    (base n : ℕ) (code : List Instr) (m : ℕ) : Type 0 where
  pub parts : List Tree
  pub values : o.values ≡ listed parts
  pub once : o.repeat ≡ None
  pub stored : AreStored fs names (kind_of_port ports o.port) parts n base (n + length parts) code m

-- a type of lists of so many single values; of which type these are doesn't matter to the code that fills cells
abbrev pub items_of_any : ℕ → Shape
items_of_any n = Many n (Single scalar.Bool)

-- Code of a list whose items are sent: the list fills the next cells, as many as it has numbers, and then each number is
-- stored in the type of the port.
pub record IsSentList (fs : List Function) (names : List Name) (e : Tree) (t : Shape)
    (kind : Scalar) (base n : ℕ) (code : List Instr) (m : ℕ) : Type 0 where
  pub body : List Instr
  pub is : code ≡ body ++ op.Copy n n (scalars_of_type t) (Some kind) ∷ []
  pub filled : IsFill fs names e t n base (n + scalars_of_type t) body m

-- one item of each of so many lists, which stand one behind the other with so many numbers each, goes to the cells from
-- one on, stored in a type
abbrev pub item_stores : Scalar → ℕ → ℕ → ℕ → ℕ → List Instr
item_stores t each zero to from = []
item_stores t each (suc lists) to from =
    op.Copy to from 1 (Some t) ∷ item_stores t each lists (to + 1) (from + each)

-- .. so many items, so that the lists take turns
abbrev pub turn_stores : Scalar → ℕ → ℕ → ℕ → ℕ → ℕ → List Instr
turn_stores t each lists zero to from = []
turn_stores t each lists (suc count) to from =
    item_stores t each lists to from ++ turn_stores t each lists count (to + lists) (from + 1)

-- Code of lists that are sent in turn: one list fills the cells of the output; several fill cells behind those, from which
-- their items go there in turn.
pub data IsRepeated (fs : List Function) (names : List Name) (kind : Scalar) (times : ℕ) :
    List Tree → ℕ → ℕ → List Instr → ℕ → Type 0 where
  one_list : (e : Tree) (base n m : ℕ) (code : List Instr)
      → IsSentList fs names e (items_of_any times) kind base n code m
      → IsRepeated fs names kind times (e ∷ []) base n code m
  in_turns : (es : List Tree) (base n m rows : ℕ) (body : List Instr)
      → rows ≡ n + length es * times
      → AreFills fs names (listed es) (items_of_any times) rows base (rows + length es * times) body m
      → IsRepeated fs names kind times es base n
      (body ++ turn_stores kind times (length es) times n rows) m

-- code of an output that is repeated
pub record IsListOutput (fs : List Function) (names : List Name) (ports : List Port) (o : Output)
    (base n : ℕ) (code : List Instr) (m : ℕ) : Type 0 where
  pub parts : List Tree
  pub are : o.values ≡ listed parts
  pub times : ℕ
  pub repeated : o.repeat ≡ Some times
  pub stored : IsRepeated fs names (kind_of_port ports o.port) times parts base n code m

-- code of outputs, one after the other, with the first cell of each
pub data AreOutputs (fs : List Function) (names : List Name) (ports : List Port) :
    List Output → List ℕ → ℕ → ℕ → List Instr → ℕ → Type 0 where
  no_output : (base n : ℕ) → AreOutputs fs names ports [] [] base n [] n
  output_more : (o : Output) (others : List Output) (firsts : List ℕ) (base n k m : ℕ)
      (a b : List Instr) → IsOutputCode fs names ports o base n a k
      → AreOutputs fs names ports others firsts (base + length a) k b m
      → AreOutputs fs names ports (o ∷ others) (n ∷ firsts) base n (a ++ b) m
  list_output_more : (o : Output) (others : List Output) (firsts : List ℕ) (base n k m : ℕ)
      (a b : List Instr) → IsListOutput fs names ports o base n a k
      → AreOutputs fs names ports others firsts (base + length a) k b m
      → AreOutputs fs names ports (o ∷ others) (n ∷ firsts) base n (a ++ b) m

-- ---- what a run of it leaves

-- these numbers stand in the cells from one on
abbrev pub StandFrom : ℕ → List ℤ → List ℤ → Type 0
StandFrom c zs cells = (k : ℕ) (z : ℤ) → slice_get zs k ≡ Some z → slice_get cells (c + k) ≡ Some z

-- the tokens of each output stand in its cells
abbrev pub AreSent : List ℕ → List (ℕ × List ℤ) → List ℤ → Type 0
AreSent [] [] cells = Unit {0}
AreSent (first ∷ firsts) (s ∷ sent) cells = StandFrom first s.1 cells × AreSent firsts sent cells
AreSent firsts sent cells = ⊥

-- The run goes on to a place with the operands that there were, with so many turns left and with the tokens in their
-- cells. Of the other cells, those below n and from m on stay.
pub record Sends (w : World) (firsts : List ℕ) (n m : ℕ) (s : State) (end : ℕ)
    (sent : List (ℕ × List ℤ)) (left : ℕ) : Type 0 where
  pub cells : List ℤ
  pub reaches : Reaches w.code w.tokens s (state end s.stack s.frames cells left)
  pub keeps : Keeps n m w.low w.high s.cells cells
  pub stand : AreSent firsts sent cells

-- how a run ends that goes as outputs do
abbrev pub EndsSent : World → List ℕ → ℕ → ℕ → State → ℕ → Out (List (ℕ × List ℤ)) → Outcome → List ℤ
    → Type 0
EndsSent w firsts n m s end (Gives sent left) o last =
    (p : Sends w firsts n m s end sent left)
    × Ends w.code w.tokens (state end s.stack s.frames p.cells left) o last
EndsSent w firsts n m s end (Traps c) o last = (o ≡ outcome.Trap c)
    × Keeps n m w.low w.high s.cells last
EndsSent w firsts n m s end Lacks o last = Unit {0}
EndsSent w firsts n m s end Clashes o last = Unit {0}

-- ---- what it does

-- Wherever these instructions stand, in code that has the routines, with cells that hold an environment, they do what
-- the outputs of an action do: they leave the tokens in their cells, each stored in the type of its port, or trap, after
-- as many turns; and a run of them has no other end. The names are locals and then globals.
pub record SendsAs (rs : Routines) (names : List Name) (ports : List Port) (outs : List Output)
    (firsts : List ℕ) (base n : ℕ) (code : List Instr) (m : ℕ) : Type 0 where
  pub goes : (w : World) (runs : Runs) (globals locals : List Name) (env : Env) (stack : List ℤ) (frames : List ℕ)
      (cells : List ℤ) (left : ℕ)
      → names ≡ locals ++ globals → StandsAt w.code.instrs base code
      → IsReady rs w runs globals locals n m cells env
      → Follows (outputs ports outs w.calls env left)
      (Sends w firsts n m (state base stack frames cells left) (base + length code))
      (CutsOff w n m (state base stack frames cells left))
  pub only : (w : World) (runs : Runs) (globals locals : List Name) (env : Env) (stack : List ℤ) (frames : List ℕ)
      (cells : List ℤ) (left : ℕ)
      → names ≡ locals ++ globals → StandsAt w.code.instrs base code
      → IsReady rs w runs globals locals n m cells env
      → (o : Outcome) (last : List ℤ)
      → Ends w.code w.tokens (state base stack frames cells left) o last
      → EndsSent w firsts n m (state base stack frames cells left) (base + length code)
      (outputs ports outs w.calls env left) o last
