-- The code of each form of an expression. It stands at a place of the code, since jumps name places.
-- Not trusted: no promise is read with it.
use Rattle.std.specs.Prelude.{◌≡◌, ℕ, ◌+◌, ◌≤◌, ℤ, Bool, pos, neg_ℤ, true, false, List, [], ◌∷◌, ◌++◌, length, map, Option, None, Some}
use Rattle.rvc_base.specs.Arithmetic as arithmetic
use Rattle.rvc_base.specs.Width.{is_num, greatest_num}
use Rattle.cal_ast.specs.declared.expr.PrefixOp.{PrefixOp}
use Rattle.cal_ast.specs.declared.expr.PrefixOp.TheVariants as prefixes
use Rattle.cal_ast.specs.declared.expr.BinOp.{BinOp}
use Rattle.cal_ast.specs.declared.expr.BinOp.TheVariants as binaries
use Rattle.cal_ast.specs.Tree as tree
use Rattle.cal_ast.specs.Tree.{Tree}
use Rattle.code_ir.specs.declared.instr.Instr.{Instr}
use Rattle.code_ir.specs.declared.instr.Instr.TheVariants as op
use Rattle.lower_base.specs.declared.names.Seat.{Seat}
use Rattle.lower_base.specs.declared.names.Seat.TheVariants.{Cell, Tokens}
use Rattle.lower_base.specs.declared.callees.Formal.{Formal}
use Rattle.lower_base.specs.Callees.{Function, function_for}
use Rattle.lower_base.specs.Names.{Name, IsSingle, named}
use Rattle.lower_base.specs.declared.names.ItemList.{ItemList}
use Rattle.lower_base.specs.Listed.{list_named}
use Rattle.lower_base.specs.declared.parts.Rows.{Rows}
use Rattle.lower_base.specs.Parted.{rows_named, deep_named, number_of}
use Rattle.lower_base.specs.Truths.{is_truth}
use Rattle.cal_model.specs.Env.{Env}
use Rattle.cal_model.specs.Expression.{eval}
use Rattle.code_ir.specs.Code.{Code}
use Rattle.lower_base.specs.Calling.{EvaluatesWith, HasRoutines, Prepared, Serves}
use Rattle.lower_base.specs.Allowing.{KeepsAllowed}
use Rattle.lower_base.specs.Fitting.{Fits}
use Rattle.lower_base.specs.Following.{MayUse}
use Rattle.lower_base.specs.Held.{AreBelow}
use Rattle.lower_base.specs.Placed.{StandsAt, World}
use Rattle.lower_base.specs.Single.{OnlySingles}

-- the instruction of an operation with one operand
abbrev pub prefix_instr : PrefixOp → Instr
prefix_instr prefixes.Not = op.Not
prefix_instr prefixes.Neg = op.Neg
prefix_instr prefixes.BitNot = op.BitNot

-- the instruction of an operation whose operands are both evaluated
abbrev pub binary_instr : BinOp → Option Instr
binary_instr binaries.Or = None
binary_instr binaries.And = None
binary_instr binaries.BitOr = Some op.Or
binary_instr binaries.BitXor = Some op.Xor
binary_instr binaries.BitAnd = Some op.And
binary_instr binaries.Eq = Some op.Eq
binary_instr binaries.Ne = Some op.Ne
binary_instr binaries.Lt = Some op.Lt
binary_instr binaries.Le = Some op.Le
binary_instr binaries.Gt = Some op.Gt
binary_instr binaries.Ge = Some op.Ge
binary_instr binaries.Shl = Some op.Shl
binary_instr binaries.Shr = Some op.Shr
binary_instr binaries.Add = Some op.Add
binary_instr binaries.Sub = Some op.Sub
binary_instr binaries.Mul = Some op.Mul
binary_instr binaries.Div = Some op.Div
binary_instr binaries.Mod = Some op.Mod

-- the instruction that pushes the single value of a seat
abbrev pub seat_instr : Seat → Instr
seat_instr (Cell c) = op.Load c
seat_instr (Tokens port first step) = op.Token port first

-- the instruction that pushes the item of a list whose place is the top
abbrev pub item_instr : ItemList → Instr
item_instr l =
    elim l.seat [
      | Cell c ↦ op.LoadAt c l.size
      | Tokens port first step ↦ op.TokenAt port first step
          l.size
    ]

-- the instruction that adds to the offset of a list that of the item whose place is the top
abbrev pub row_instr : Rows → Instr
row_instr r = op.Index r.count r.each

-- code that traps: a sum that is one greater than the greatest number
abbrev pub one_too_great : List Instr
one_too_great = op.Const greatest_num ∷ op.Const (pos 1) ∷ op.Add ∷ []

-- the arguments go from the stack to the cells of the formals, the last one first
abbrev pub formal_stores : List Formal → List Instr
formal_stores [] = []
formal_stores (x ∷ xs) = formal_stores xs ++ op.Store x.cell (Some x.kind) ∷ []

-- a call whose arguments stand on the stack: a turn, and then the routine
abbrev pub call_code : Function → List Instr
call_code f = op.Turn ∷ (formal_stores f.formals ++ op.Call f.routine ∷ [])

-- an instruction with the place to jump to: `Done`, which code of expressions doesn't have, stands for the jump
abbrev pub aimed : ℕ → Instr → Instr
aimed out op.Done = op.JumpIfNot out
aimed out i = i

-- Code that evaluates an expression in any other way: what is known of it is that it pushes the value, which is a
-- single one, that it fits where it stands, that it has no jump whose target isn't known, and what it writes and reads.
pub record IsOtherCode (fs : List Function) (names : List Name) (e : Tree) (base n : ℕ)
    (code : List Instr) (m : ℕ) : Type 0 where
  pub cells : n ≤ m
  pub evaluates : AreBelow n names → EvaluatesWith fs names e base n m code
  pub singles : AreBelow n names
      → (w : World) (globals : List Name) (env : Env) (cells : List ℤ) (left : ℕ)
      → StandsAt w.code.instrs base code → Serves w globals fs
      → Prepared w globals names fs n cells env → MayUse w n m cells
      → OnlySingles (eval e w.calls env left)
  pub fits : (whole : Code) (callable limit h : ℕ) → HasRoutines whole callable limit fs
      → AreBelow n names → m ≤ limit → StandsAt whole.instrs base code
      → Fits whole callable limit base h code (h + 1) (base + length code) (h + 1)
  pub aims : (out : ℕ) → map (aimed out) code ≡ code
  pub allowed : KeepsAllowed fs names n code

mutual
  -- Code of an expression that stands at a place. It pushes the value. Of the cells, it uses those from n to m.
  pub data IsCode (fs : List Function) (names : List Name) : Tree → ℕ → ℕ → List Instr → ℕ → Type 0 where
    in_another_way : (e : Tree) (base n m : ℕ) (code : List Instr) → IsOtherCode fs names e base n code m
        → IsCode fs names e base n code m
    number : (k at base n : ℕ) → is_num (pos k) ≡ true
        → IsCode fs names (tree.number k at) base n (op.Const (pos k) ∷ []) n
    -- a literal that is no number traps
    too_great : (k at base n : ℕ) → is_num (pos k) ≡ false
        → IsCode fs names (tree.number k at) base n one_too_great n
    negative : (k at base n place : ℕ) → is_num (pos k) ≡ true
        → IsCode fs names (tree.prefix prefixes.Neg (tree.number k place) at) base n
        (op.Const (neg_ℤ (pos k)) ∷ []) n
    truth : (b : Bool) (at base n : ℕ)
        → IsCode fs names (tree.truth b at) base n (op.Const (arithmetic.truth b) ∷ []) n
    variable : (text : List ℕ) (at base n : ℕ) (x : Name) → named text names ≡ Some x
        → IsSingle x.shape
        → IsCode fs names (tree.variable text at) base n (seat_instr x.seat ∷ []) n
    paren : (e : Tree) (at base n m : ℕ) (code : List Instr) → IsCode fs names e base n code m
        → IsCode fs names (tree.paren e at) base n code m
    prefix : (o : PrefixOp) (e : Tree) (at base n m : ℕ) (code : List Instr)
        → IsCode fs names e base n code m
        → IsCode fs names (tree.prefix o e at) base n (code ++ prefix_instr o ∷ []) m
    binary : (o : BinOp) (i : Instr) (l r : Tree) (at base n k m : ℕ) (a b : List Instr)
        → binary_instr o ≡ Some i
        → IsCode fs names l base n a k → IsCode fs names r (base + length a) k b m
        → IsCode fs names (tree.binary o l r at) base n (a ++ (b ++ i ∷ [])) m
    -- the arguments, a turn, and the routine of the function
    call : (text : List ℕ) (args : Tree) (at base n m : ℕ) (code : List Instr) (f : Function)
        → function_for text (number_of args) fs ≡ Some f
        → AreArgs fs names args base n code m
        → IsCode fs names (tree.call text args at) base n (code ++ call_code f) m
    -- the place, and then the item there
    item : (e place : Tree) (at base n m : ℕ) (code : List Instr) (l : ItemList)
        → list_named names e ≡ Some l → IsCode fs names place base n code m
        → IsCode fs names (tree.index e place at) base n (code ++ item_instr l ∷ []) m
    -- the offset of the item in the whole list, and then the item there
    deep_item : (e place : Tree) (at base n m : ℕ) (code : List Instr) (l : ItemList)
        → deep_named names (tree.index e place at) ≡ Some l
        → IsOffset fs names (tree.index e place at) base n code m
        → IsCode fs names (tree.index e place at) base n (code ++ item_instr l ∷ []) m
    -- if the left side is false, the right one isn't evaluated
    both : (l r : Tree) (at base n k m out end : ℕ) (a b : List Instr) → is_truth fs names l ≡ true
        → IsTest fs names l base n out a k → IsCode fs names r (base + length a) k b m
        → out ≡ base + length a + length b + 1 → end ≡ out + 1
        → IsCode fs names (tree.binary binaries.And l r at) base n
        (a ++ (b ++ op.Jump end ∷ op.Const (pos 0) ∷ [])) m
    -- if the left side is true, the right one isn't evaluated
    either : (l r : Tree) (at base n k m right end : ℕ) (a b : List Instr) → is_truth fs names l ≡ true
        → IsTest fs names l base n right a k → IsCode fs names r right k b m
        → right ≡ base + length a + 2 → end ≡ right + length b
        → IsCode fs names (tree.binary binaries.Or l r at) base n
        (a ++ (op.Const (pos 1) ∷ op.Jump end ∷ b)) m
    -- the condition, the first branch with a jump over the other, and the other branch
    if_code : (test first other : Tree) (at base n k h m else_at end : ℕ) (a b c : List Instr)
        → IsTest fs names test base n else_at a k → IsCode fs names first (base + length a) k b h
        → IsCode fs names other else_at h c m
        → else_at ≡ base + length a + length b + 1 → end ≡ else_at + length c
        → IsCode fs names (tree.if_expr test first other at) base n (a ++ (b ++ op.Jump end ∷ c)) m

  -- code of arguments, one after the other
  pub data AreArgs (fs : List Function) (names : List Name) :
      Tree → ℕ → ℕ → List Instr → ℕ → Type 0 where
    no_arg : (base n : ℕ) → AreArgs fs names tree.nil base n [] n
    arg_more : (e es : Tree) (base n k m : ℕ) (a b : List Instr)
        → IsCode fs names e base n a k → AreArgs fs names es (base + length a) k b m
        → AreArgs fs names (tree.cons e es) base n (a ++ b) m

  -- Code of a chain of indexes on the name of a list, that stands at a place. It pushes the offset of the part in
  -- the whole list; each place is tested before the next one is evaluated.
  pub data IsOffset (fs : List Function) (names : List Name) : Tree → ℕ → ℕ → List Instr → ℕ → Type 0 where
    whole : (text : List ℕ) (at base n : ℕ)
        → IsOffset fs names (tree.variable text at) base n (op.Const (pos 0) ∷ []) n
    row : (e place : Tree) (at base n k m : ℕ) (a b : List Instr) (r : Rows)
        → rows_named names e ≡ Some r
        → IsOffset fs names e base n a k → IsCode fs names place (base + length a) k b m
        → IsOffset fs names (tree.index e place at) base n (a ++ (b ++ row_instr r ∷ [])) m

  -- Code of a condition that stands at a place. It goes on after itself if the condition is true, and jumps to
  -- `out` if it is false.
  pub data IsTest (fs : List Function) (names : List Name) : Tree → ℕ → ℕ → ℕ → List Instr → ℕ → Type 0 where
    tested : (e : Tree) (base n m out : ℕ) (code : List Instr) → IsCode fs names e base n code m
        → IsTest fs names e base n out (code ++ op.JumpIfNot out ∷ []) m
    -- both conditions jump to the same place
    both_tested : (l r : Tree) (at base n k m out : ℕ) (a b : List Instr) → is_truth fs names l ≡ true
        → IsTest fs names l base n out a k → IsTest fs names r (base + length a) k out b m
        → IsTest fs names (tree.binary binaries.And l r at) base n out (a ++ b) m

-- ---- conditions whose place to jump to isn't known yet

-- code of a condition, whatever the place is that it is to jump to
abbrev pub IsOpenTest : List Function → List Name → Tree → ℕ → ℕ → List Instr → ℕ → Type 0
IsOpenTest fs names e base n code m = (out : ℕ) → IsTest fs names e base n out (map (aimed out) code) m
