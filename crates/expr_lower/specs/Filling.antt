-- The code of each form of an expression of a list, which fills cells with it. It stands at a place of the code,
-- since jumps name places.
-- Trusted: part of what a promise means.
use Rattle.std.specs.Prelude.{◌≡◌, ℕ, ◌+◌, ◌*◌, ◌^◌, true, nat_lt, pos, List, [], ◌∷◌, ◌++◌, length, None, Some}
use Rattle.rvc_base.specs.declared.scalar.Scalar.{Scalar}
use Rattle.rvc_base.specs.Width.{is_num}
use Rattle.cal_ast.specs.Tree as tree
use Rattle.cal_ast.specs.Tree.{Tree}
use Rattle.cal_model.specs.Value.{Shape, Single, Many, scalars_of_type}
use Rattle.code_ir.specs.declared.instr.Instr.{Instr}
use Rattle.code_ir.specs.declared.instr.Instr.TheVariants as op
use Rattle.lower_base.specs.declared.names.Seat.{Seat}
use Rattle.lower_base.specs.declared.names.Seat.TheVariants.{Cell, Tokens}
use Rattle.lower_base.specs.Callees.{Function}
use Rattle.lower_base.specs.Coding.{IsCode, IsOffset, IsTest}
use Rattle.lower_base.specs.Names.{Name, named, local}
use Rattle.lower_base.specs.Parted.{Part, number_of, part_named}
pub use Rattle.lower_base.specs.Parted.{alike}
use Rattle.lower_base.specs.Generators.{Counted, counted_by, how_many, makes_none}

-- the instruction that copies the numbers of a seat
abbrev pub take_instr : ℕ → ℕ → Seat → Instr
take_instr c size (Cell s) = op.Copy c s size None
take_instr c size (Tokens port first step) = op.TokenList c port first step size

-- the index of an item on the stack leads to its numbers, which are copied from a list in cells
abbrev pub apart_tail : ℕ → ℕ → ℕ → ℕ → List Instr
apart_tail c from many each = op.Index many each ∷ op.CopyFrom c from (many * each) each ∷ []

-- ---- parts of the code of a comprehension

-- the number on the stack is that at which a generator is: it goes to cell k, and into the variable behind it
abbrev pub set_number : ℕ → Counted → List Instr
set_number k x = op.Store k None ∷ op.Load k ∷ op.Store (k + 1) (Some x.kind) ∷ []

-- each generator is at its first number
abbrev pub at_first : ℕ → Tree → List Instr
at_first k (tree.cons g gens) = elim (counted_by g)
    [ None ↦ [] | Some x ↦ op.Const x.low ∷ (set_number k x ++ at_first (k + 2) gens) ]
at_first k other = []

-- what comes behind an element: at the last number it leads on, and else to the element of the next number, for
-- which the generators inside are at their first numbers again
abbrev pub next_number : ℕ → Counted → Tree → ℕ → ℕ → List Instr
next_number k x gens turn out =
    op.Load k ∷ op.Const x.high ∷ op.Lt ∷ op.JumpIfNot out
    ∷ op.Load k ∷ op.Const (pos 1) ∷ op.Add ∷ (set_number k x ++ (at_first (k + 2) gens ++ op.Jump turn ∷ []))

-- so many cells more are filled
abbrev pub filled_more : ℕ → ℕ → List Instr
filled_more place each = op.Load place ∷ op.Const (pos each) ∷ op.Add ∷ op.Store place None ∷ []

mutual
  -- Code of an expression that stands at a place. It fills the cells from c on with the numbers of the value, which
  -- is of a type but for the sizes of its numbers. Of the cells, it uses those and those from n to m.
  pub data IsFill (fs : List Function) :
      List Name → Tree → Shape → ℕ → ℕ → ℕ → List Instr → ℕ → Type 0 where
    -- a single value
    one_cell : (names : List Name) (e : Tree) (t : Scalar) (c base n m : ℕ) (code : List Instr)
        → IsCode fs names e base n code m
        → IsFill fs names e (Single t) c base n (code ++ op.Store c None ∷ []) m
    -- another list, where it stands
    whole_list : (names : List Name) (text : List ℕ) (t : Shape) (at c base n : ℕ) (x : Name)
        → named text names ≡ Some x → alike t x.shape ≡ true
        → IsFill fs names (tree.variable text at) t c base n
        (take_instr c (scalars_of_type t) x.seat ∷ []) n
    -- a part of a list that stands in cells: its offset in the whole list, and then its numbers, from there on
    part_list : (names : List Name) (e : Tree) (t : Shape) (c base n m from : ℕ) (code : List Instr)
        (p : Part)
        → part_named names e ≡ Some p → p.seat ≡ Cell from → alike t p.shape ≡ true
        → IsOffset fs names e base n code m
        → IsFill fs names e t c base n (code ++ op.CopyFrom c from p.size (scalars_of_type t) ∷ []) m
    -- an item, which is a list, of a list that is filled apart: that one, the offset of the item in it, and its numbers,
    -- from there on
    apart_list : (names : List Name) (e place : Tree) (t : Shape) (many at c base n k m : ℕ) (a b : List Instr)
        → nat_lt (many * scalars_of_type t) (2 ^ 32) ≡ true
        → IsFill fs names e (Many many t) n base (n + many * scalars_of_type t) a k
        → IsCode fs names place (base + length a + 1) k b m
        → IsFill fs names (tree.index e place at) t c base n
        (a ++ op.Const (pos 0) ∷ (b ++ apart_tail c n many (scalars_of_type t))) m
    in_parens : (names : List Name) (e : Tree) (t : Shape) (at c base n m : ℕ) (code : List Instr)
        → IsFill fs names e t c base n code m
        → IsFill fs names (tree.paren e at) t c base n code m
    items : (names : List Name) (es : Tree) (t : Shape) (at c base n m : ℕ) (code : List Instr)
        → AreFills fs names es t c base n code m
        → IsFill fs names (tree.list es at) (Many (number_of es) t) c base n code m
    -- the condition, the first branch with a jump over the other, and the other branch
    either_list : (names : List Name) (test first other : Tree) (t : Shape)
        (at c base n k h m else_at end : ℕ) (a b d : List Instr)
        → IsTest fs names test base n else_at a k → IsFill fs names first t c (base + length a) k b h
        → IsFill fs names other t c else_at h d m
        → else_at ≡ base + length a + length b + 1 → end ≡ else_at + length d
        → IsFill fs names (tree.if_expr test first other at) t c base n (a ++ (b ++ op.Jump end ∷ d)) m
    -- how many cells are filled is kept in cell n; that is a number of the language
    elements : (names : List Name) (item gens : Tree) (t : Shape) (at c base n m many turn : ℕ)
        (code : List Instr)
        → how_many gens ≡ Some many → is_num (pos (many * scalars_of_type t)) ≡ true
        → turn ≡ base + 1 + length (at_first (n + 1) gens)
        → AreElements fs gens item t c (many * scalars_of_type t) n turn names (n + 1) code m
        → IsFill fs names (tree.comp item gens at) (Many many t) c base n
        (op.Zero n 1 ∷ (at_first (n + 1) gens ++ code)) m
    -- no elements: nothing is evaluated, and no turn is taken
    no_elements : (names : List Name) (item gens : Tree) (t : Shape) (at c base n : ℕ)
        → makes_none gens ≡ true
        → IsFill fs names (tree.comp item gens at) (Many 0 t) c base n [] n

  -- code of items, one after the other
  pub data AreFills (fs : List Function) :
      List Name → Tree → Shape → ℕ → ℕ → ℕ → List Instr → ℕ → Type 0 where
    no_item : (names : List Name) (t : Shape) (c base n : ℕ)
        → AreFills fs names tree.nil t c base n [] n
    item_more : (names : List Name) (e es : Tree) (t : Shape) (c base n k m : ℕ) (a b : List Instr)
        → IsFill fs names e t c base n a k
        → AreFills fs names es t (c + scalars_of_type t) (base + length a) k b m
        → AreFills fs names (tree.cons e es) t c base n (a ++ b) m

  -- Code of the elements of generators which are at their first numbers, from the turn before an element on. It
  -- fills the cells of a list from that place on that stands in cell `filled`. The innermost generator counts fastest.
  pub data AreElements (fs : List Function) : Tree → Tree → Shape → ℕ → ℕ → ℕ → ℕ → List Name → ℕ → List Instr → ℕ
      → Type 0 where
    -- an element of a single value goes to its place from the stack
    one_element : (item : Tree) (t : Scalar) (c all filled turn : ℕ) (names : List Name) (k m : ℕ)
        (code : List Instr)
        → IsCode fs names item (turn + 2) k code m
        → AreElements fs tree.nil item (Single t) c all filled turn names k
        (op.Turn ∷ op.Load filled ∷ (code ++ op.StoreAt c all None ∷ filled_more filled 1)) m
    -- an element that is a list is filled apart, and copied
    list_element : (item : Tree) (t : Shape) (size c all filled turn : ℕ) (names : List Name) (k m : ℕ)
        (code : List Instr)
        → IsFill fs names item (Many size t) k (turn + 1) (k + scalars_of_type (Many size t)) code m
        → AreElements fs tree.nil item (Many size t) c all filled turn names k
        (op.Turn ∷ (code ++ op.Load filled ∷ op.CopyTo c all k (scalars_of_type (Many size t)) None
        ∷ filled_more filled (scalars_of_type (Many size t)))) m
    -- the elements for one number, and what leads to the next one
    each_number : (g gens item : Tree) (t : Shape) (x : Counted) (c all filled turn out : ℕ)
        (names : List Name) (k m : ℕ) (code : List Instr)
        → counted_by g ≡ Some x
        → AreElements fs gens item t c all filled turn (local x.text x.kind (k + 1) ∷ names) (k + 2) code m
        → out ≡ turn + length code + length (next_number k x gens turn 0)
        → AreElements fs (tree.cons g gens) item t c all filled turn names k
        (code ++ next_number k x gens turn out) m
