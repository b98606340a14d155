-- The code of each form of a statement. It stands at a place of the code, since jumps name places.
-- Trusted: part of what a promise means.
use Rattle.std.specs.Prelude.{◌≡◌, ℕ, ◌+◌, ℤ, pos, int_lt, Bool, true, not, ◌&&◌, List, [], ◌∷◌, ◌++◌, length, Option, None, Some}
use Rattle.std.specs.Ordering.{int_eq}
use Rattle.rvc_base.specs.declared.scalar.Scalar.{Scalar}
use Rattle.rvc_base.specs.Storing.{conv}
use Rattle.cal_ast.specs.Tree as tree
use Rattle.cal_ast.specs.Tree.{Tree}
use Rattle.cal_model.specs.Value.{Shape, Single, Many, scalars_of_type}
use Rattle.code_ir.specs.declared.instr.Instr.{Instr}
use Rattle.code_ir.specs.declared.instr.Instr.TheVariants as op
use Rattle.lower_stmt.specs.declared.counter.Counter.{Counter}
use Rattle.lower_base.specs.declared.names.ItemList.{ItemList}
use Rattle.lower_base.specs.declared.names.Seat.{Seat}
use Rattle.lower_base.specs.declared.names.Seat.TheVariants.{Cell, Tokens}
use Rattle.lower_base.specs.Bounds.{bound_of}
use Rattle.lower_base.specs.Callees.{Function}
use Rattle.lower_base.specs.Names.{Name, named, local}
use Rattle.lower_base.specs.Starting.{IsStart}
use Rattle.lower_base.specs.Coding.{AreArgs, IsCode, IsTest, formal_stores}
use Rattle.lower_base.specs.Listed.{list_named}
use Rattle.expr_lower.specs.Filling.{IsFill}
use Rattle.lower_base.specs.Meant.{single_meant}
use Rattle.expr_lower.specs.ShapeMeant.{shape_meant}
use Rattle.lower_stmt.specs.ListStarting.{IsListStart, local_of}
use Rattle.lower_stmt.specs.Procedures.{Procedure, Routines, procedure_for}
use Rattle.lower_stmt.specs.Targets.{leaf_of, part_in}
use Rattle.lower_base.specs.Parted.{alike, number_of, sized}

-- ---- parts of the code of a `foreach`

-- the cells of a `foreach` from n on: the number, the last one, and the variable
abbrev pub counter_at : ℕ → Scalar → Counter
counter_at n t = record { number = n; last = n + 1; variable = n + 2; kind = t }

-- the bounds go to their cells, and are compared
abbrev pub each_bounds : Counter → List Instr
each_bounds c = op.Store c.last None ∷ op.Store c.number None ∷ op.Load c.number ∷ op.Load c.last
    ∷ op.Le ∷ []

-- a turn, and the variable gets the number
abbrev pub each_turn : Counter → List Instr
each_turn c = op.Turn ∷ op.Load c.number ∷ op.Store c.variable (Some c.kind) ∷ []

-- whether the number isn't the last one
abbrev pub each_less : Counter → List Instr
each_less c = op.Load c.number ∷ op.Load c.last ∷ op.Lt ∷ []

-- the next number, and a jump back to the turn
abbrev pub each_next : Counter → ℕ → List Instr
each_next c turn = op.Load c.number ∷ op.Const (pos 1) ∷ op.Add ∷ op.Store c.number None
    ∷ op.Jump turn ∷ []

-- what comes before the body, and leads to `out` if there is no number
abbrev pub each_head : ℕ → Scalar → ℕ → List Instr
each_head n t out = each_bounds (counter_at n t) ++ op.JumpIfNot out ∷ each_turn (counter_at n t)

-- .. and behind it: at the last number it ends, so that the number is never one too great
abbrev pub each_tail : ℕ → ℕ → ℕ → List Instr
each_tail n turn out =
    op.Load n ∷ op.Load (n + 1) ∷ op.Lt ∷ op.JumpIfNot out
    ∷ op.Load n ∷ op.Const (pos 1) ∷ op.Add ∷ op.Store n None ∷ op.Jump turn ∷ []

-- ---- parts of the code of a `foreach` that counts in the cell of its variable

-- a type holds a number as it is
abbrev pub holds_number : Scalar → ℤ → Bool
holds_number t z = int_eq (conv t z) z

-- there is a number from the first to the last one, and the type of the variable holds both
abbrev pub counts_in_place : Scalar → ℤ → ℤ → Bool
counts_in_place t low high =
    not (int_lt high low) && (holds_number t low && holds_number t high)

-- the variable gets the first number
abbrev pub count_first : ℕ → ℤ → List Instr
count_first c low = op.Const low ∷ op.Store c None ∷ []

-- The next number, and a jump back to the turn unless that is past the last one. It is stored without a type, which may
-- not hold it.
abbrev pub count_next : ℕ → ℤ → ℕ → List Instr
count_next c high turn = op.Load c ∷ op.Const (pos 1) ∷ op.Add ∷ op.Store c None
    ∷ op.Load c ∷ op.Const high ∷ op.Gt ∷ op.JumpIfNot turn ∷ []

-- ---- lists that are stored whole

-- A list that stands at a seat goes to cells, each of its items stored in a type. Tokens are taken first, and then
-- stored where they are.
abbrev pub copy_code : ℕ → ℕ → Scalar → Seat → List Instr
copy_code c size t (Cell s) = op.Copy c s size (Some t) ∷ []
copy_code c size t (Tokens port first step) =
    op.TokenList c port first step size ∷ op.Copy c c size (Some t) ∷ []

-- ---- parts of lists

-- Code that evaluates the places of a part, and keeps each in a cell, from c on.
pub data IsKept (fs : List Function) (names : List Name) : ℕ → Tree → ℕ → ℕ → List Instr → ℕ → Type 0 where
  no_place : (c base n : ℕ) → IsKept fs names c tree.nil base n [] n
  place_more : (place places : Tree) (c base n k m : ℕ) (a b : List Instr)
      → IsCode fs names place base n a k → IsKept fs names (c + 1) places (base + length a + 1) k b m
      → IsKept fs names c (tree.cons place places) base n (a ++ op.Store c None ∷ b) m

-- code that adds to an offset what one kept place makes of it, and then what the next ones make of that
abbrev pub step_in : ℕ → ℕ → Option ℕ → List Instr → List Instr
step_in c n None rest = []
step_in c n (Some each) rest = op.Load c ∷ op.Index n each ∷ rest

abbrev pub step_code : ℕ → Shape → Tree → List Instr
step_code c (Many n items) (tree.cons place places) =
    step_in c n (sized items) (step_code (c + 1) items places)
step_code c shape other = []

-- The places are tested in turn, which gives the offset of the part. The numbers that stand in the cells from s on are
-- stored from there on, each in the type of the list's single values.
abbrev pub part_tail : ℕ → ℕ → ℕ → Shape → List Instr → List Instr
part_tail c size s t steps =
    op.Const (pos 0) ∷ (steps ++ op.CopyTo c size s (scalars_of_type t) (Some (leaf_of t)) ∷ [])

-- ---- calls of procedures

-- a call whose arguments stand on the stack: a turn, and then the routine
abbrev pub run_code : Procedure → List Instr
run_code p = op.Turn ∷ (formal_stores p.formals ++ op.Call p.routine ∷ [])

mutual
  -- Code of a statement that stands at a place. Of the cells, it uses those of the names and those from n to m.
  pub data IsStmt (rs : Routines) : List Name → Tree → ℕ → ℕ → List Instr → ℕ → Type 0 where
    -- the value, and then the cell in which it is stored
    set : (names : List Name) (text : List ℕ) (value : Tree) (place at base n m c : ℕ)
        (code : List Instr) (x : Name) (t : Scalar)
        → named text names ≡ Some x → x.seat ≡ Cell c → x.shape ≡ Single t
        → IsCode rs.functions names value base n code m
        → IsStmt rs names (tree.assign (tree.ident text place) tree.nil value at) base n
        (code ++ op.Store c (Some t) ∷ []) m
    -- the items of another list, which isn't copied before
    set_list : (names : List Name) (text : List ℕ) (value : Tree) (place at base n c size : ℕ)
        (x : Name) (t : Scalar) (l : ItemList)
        → named text names ≡ Some x → x.seat ≡ Cell c → x.shape ≡ Many size (Single t)
        → list_named names value ≡ Some l → l.size ≡ size
        → IsStmt rs names (tree.assign (tree.ident text place) tree.nil value at) base n
        (copy_code c size t l.seat) n
    -- the items that are written, each of which is kept before the first one is stored
    set_items : (names : List Name) (text : List ℕ) (items : Tree)
        (list place at base n m c size : ℕ) (a : List Instr) (x : Name) (t : Scalar)
        → named text names ≡ Some x → x.seat ≡ Cell c → x.shape ≡ Many size (Single t)
        → number_of items ≡ size → IsKept rs.functions names n items base (n + size) a m
        → IsStmt rs names (tree.assign (tree.ident text place) tree.nil (tree.list items list) at)
        base n (a ++ copy_code c size t (Cell n)) m
    -- the numbers of another list at any depth, which isn't copied before
    set_whole : (names : List Name) (text from : List ℕ) (place from_at at base n c d : ℕ)
        (x y : Name)
        → named text names ≡ Some x → x.seat ≡ Cell c
        → named from names ≡ Some y → y.seat ≡ Cell d → alike x.shape y.shape ≡ true
        → IsStmt rs names (tree.assign (tree.ident text place) tree.nil (tree.variable from from_at) at) base n
        (op.Copy c d (scalars_of_type x.shape) (Some (leaf_of x.shape)) ∷ []) n
    -- any other list, which is filled apart before its items are stored
    set_filled : (names : List Name) (text : List ℕ) (value : Tree) (place at base n m c : ℕ)
        (a : List Instr) (x : Name)
        → named text names ≡ Some x → x.seat ≡ Cell c
        → IsFill rs.functions names value x.shape n base (n + scalars_of_type x.shape) a m
        → IsStmt rs names (tree.assign (tree.ident text place) tree.nil value at) base n
        (a ++ op.Copy c n (scalars_of_type x.shape) (Some (leaf_of x.shape)) ∷ []) m
    -- the place in the list, then the value, and then the instruction that tests the place
    set_item : (names : List Name) (text : List ℕ) (index value : Tree)
        (place at base n k m c size : ℕ) (a b : List Instr) (x : Name) (t : Scalar)
        → named text names ≡ Some x → x.seat ≡ Cell c → x.shape ≡ Many size (Single t)
        → IsCode rs.functions names index base n a k → IsCode rs.functions names value (base + length a) k b m
        → IsStmt rs names (tree.assign (tree.ident text place) (tree.cons index tree.nil) value at)
        base n (a ++ (b ++ op.StoreAt c size (Some t) ∷ [])) m
    -- the places, then the value, which is filled apart, be it a list or not, and then the tests of the places
    set_part : (names : List Name) (text : List ℕ) (places value : Tree)
        (place at base n k m c size : ℕ) (a b : List Instr) (x : Name) (t : Shape)
        → named text names ≡ Some x → x.seat ≡ Cell c → sized x.shape ≡ Some size
        → part_in x.shape places ≡ Some t
        → IsKept rs.functions names n places base (n + number_of places + scalars_of_type t) a k
        → IsFill rs.functions names value t (n + number_of places) (base + length a) k b m
        → IsStmt rs names (tree.assign (tree.ident text place) places value at) base n
        (a ++ (b ++ part_tail c size (n + number_of places) t (step_code n x.shape places))) m
    -- .. or from the cells of a list's name, which isn't copied before
    set_part_list : (names : List Name) (text from : List ℕ) (places : Tree)
        (place from_at at base n m c size d : ℕ) (a : List Instr) (x y : Name) (t : Shape)
        → named text names ≡ Some x → x.seat ≡ Cell c → sized x.shape ≡ Some size
        → part_in x.shape places ≡ Some t
        → named from names ≡ Some y → y.seat ≡ Cell d → alike t y.shape ≡ true
        → IsKept rs.functions names n places base (n + number_of places) a m
        → IsStmt rs names (tree.assign (tree.ident text place) places (tree.variable from from_at) at) base n
        (a ++ part_tail c size d t (step_code n x.shape places)) m
    -- the arguments, a turn, and the routine of the procedure
    call : (names : List Name) (text : List ℕ) (args : Tree) (place at base n m : ℕ)
        (code : List Instr) (p : Procedure)
        → procedure_for text (number_of args) rs.procedures ≡ Some p
        → AreArgs rs.functions names args base n code m
        → IsStmt rs names (tree.call_stmt (tree.ident text place) args at) base n
        (code ++ run_code p) m
    -- the condition, and what is done if it is true
    if_alone : (names : List Name) (test first : Tree) (at base n k m end : ℕ) (a b : List Instr)
        → IsTest rs.functions names test base n end a k → AreStmts rs names first (base + length a) k b m
        → end ≡ base + length a + length b
        → IsStmt rs names (tree.if_stmt test first tree.absent at) base n (a ++ b) m
    -- the condition, the first branch with a jump over the other, and the other branch
    if_else : (names : List Name) (test first other : Tree) (at base n k h m else_at end : ℕ)
        (a b c : List Instr)
        → IsTest rs.functions names test base n else_at a k → AreStmts rs names first (base + length a) k b h
        → AreStmts rs names other else_at h c m
        → else_at ≡ base + length a + length b + 1 → end ≡ else_at + length c
        → IsStmt rs names (tree.if_stmt test first (tree.present other) at) base n
        (a ++ (b ++ op.Jump end ∷ c)) m
    -- A jump to the condition; a turn and the body; the condition, with a jump back to the turn if it is true.
    while_code :
        (names : List Name) (test body : Tree) (at base n k m head out : ℕ) (a b : List Instr)
        → AreStmts rs names body (base + 2) n b k → IsTest rs.functions names test head k out a m
        → head ≡ base + 2 + length b → out ≡ head + length a + 1
        → IsStmt rs names (tree.while_stmt test body at) base n
        (op.Jump head ∷ op.Turn ∷ (b ++ (a ++ op.Jump (base + 1) ∷ []))) m
    -- The bounds; for each number from the first to the last a turn and the body, inside which the variable has a
    -- cell of its own.
    each_code : (names : List Name) (shape from to body : Tree) (text : List ℕ)
        (place at base n k j m turn start out : ℕ) (a b c : List Instr) (t : Scalar)
        → single_meant shape ≡ Some t
        → IsCode rs.functions names from base (n + 3) a k → IsCode rs.functions names to (base + length a) k b j
        → AreStmts rs (local text t (n + 2) ∷ names) body start j c m
        → turn ≡ base + length a + length b + 6 → start ≡ turn + 3 → out ≡ start + length c + 9
        → IsStmt rs names (tree.foreach_stmt shape (tree.ident text place) from to body at) base n
        (a ++ (b ++ (each_head n t out ++ (c ++ each_tail n turn out)))) m
    -- Bounds that are written out, between which the variable's own cell counts; for each number a turn and the body.
    each_counted : (names : List Name) (shape from to body : Tree) (text : List ℕ)
        (place at base n m : ℕ) (low high : ℤ) (c : List Instr) (t : Scalar)
        → single_meant shape ≡ Some t → bound_of from ≡ Some low → bound_of to ≡ Some high
        → counts_in_place t low high ≡ true
        → AreStmts rs (local text t n ∷ names) body (base + 3) (n + 1) c m
        → IsStmt rs names (tree.foreach_stmt shape (tree.ident text place) from to body at) base n
        (count_first n low ++ op.Turn ∷ (c ++ count_next n high (base + 2))) m
    block_code : (names : List Name) (vars body : Tree) (at base n m : ℕ) (code : List Instr)
        → IsBlock rs names vars body base n code m
        → IsStmt rs names (tree.block vars body at) base n code m

  -- code of the variables of a block, each of which is seen by those behind it, and of its statements
  pub data IsBlock (rs : Routines) : List Name → Tree → Tree → ℕ → ℕ → List Instr → ℕ → Type 0 where
    no_more : (names : List Name) (body : Tree) (base n m : ℕ) (code : List Instr)
        → AreStmts rs names body base n code m → IsBlock rs names tree.nil body base n code m
    variable_more : (names : List Name) (shape start vars body : Tree) (text : List ℕ)
        (place at base n k m : ℕ) (a b : List Instr) (t : Scalar) (changes : Bool)
        → single_meant shape ≡ Some t → IsStart rs.functions names t n start base (n + 1) a k
        → IsBlock rs (local text t n ∷ names) vars body (base + length a) k b m
        → IsBlock rs names (tree.cons (tree.var shape (tree.ident text place) start changes at) vars)
        body base n (a ++ b) m
    list_more : (names : List Name) (shape start vars body : Tree) (text : List ℕ)
        (place at base n k m : ℕ) (a b : List Instr) (t : Shape) (changes : Bool)
        → shape_meant shape ≡ Some t
        → IsListStart rs.functions names t n start base (n + scalars_of_type t) a k
        → IsBlock rs (local_of text t n ∷ names) vars body (base + length a) k b m
        → IsBlock rs names (tree.cons (tree.var shape (tree.ident text place) start changes at) vars)
        body base n (a ++ b) m

  -- code of statements, one after the other
  pub data AreStmts (rs : Routines) : List Name → Tree → ℕ → ℕ → List Instr → ℕ → Type 0 where
    none : (names : List Name) (base n : ℕ) → AreStmts rs names tree.nil base n [] n
    one_more : (names : List Name) (s rest : Tree) (base n k m : ℕ) (a b : List Instr)
        → IsStmt rs names s base n a k → AreStmts rs names rest (base + length a) k b m
        → AreStmts rs names (tree.cons s rest) base n (a ++ b) m
