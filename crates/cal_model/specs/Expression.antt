-- Evaluation: what an expression gives (ISO/IEC 23001-4, RVC-CAL: expressions; CAL Language Report, expressions).
--
-- From left to right, one case a form. Each step is told how many turns are left, and says how many it leaves.
-- Trusted: part of what a promise means.
use Rattle.std.specs.Prelude.{ℕ, zero, suc, Bool, true, false, not, ◌&&◌, ◌||◌, nat_le, List, codes, ℤ, pos, ◌+ℤ◌, ◌-ℤ◌, int_lt, unsigned_abs, if◌then◌else◌, Option, None, Some}
use Rattle.std.specs.Str.{bytes_eq}
use Rattle.rvc_base.specs.declared.scalar.Scalar.TheVariants as scalar
use Rattle.rvc_base.specs.Arithmetic.{Computed, whole, add, sub, mul, neg, div, rem, shl, shr, bit_and, bit_or, bit_xor, bit_not, is_equal, is_below}
use Rattle.rvc_base.specs.Arithmetic as arithmetic
use Rattle.rvc_base.specs.Turns.{max_turns}
use Rattle.rvc_base.specs.Width.{default_size, max_size}
use Rattle.cal_ast.specs.declared.expr.PrefixOp.{PrefixOp}
use Rattle.cal_ast.specs.declared.expr.PrefixOp.TheVariants.{Not, Neg, BitNot}
use Rattle.cal_ast.specs.declared.expr.BinOp.{BinOp}
use Rattle.cal_ast.specs.declared.expr.BinOp.TheVariants.{Or, And, BitOr, BitXor, BitAnd, Eq, Ne, Lt, Le, Gt, Ge, Shl, Shr, Add, Sub, Mul, Div, Mod}
use Rattle.cal_ast.specs.Tree as tree
use Rattle.cal_ast.specs.Tree.{Tree}
use Rattle.cal_model.specs.Value.{Shape, Single, Many, Value, Num, Truth, Items, Values, Nil, Cons, one, joined, stored}
use Rattle.cal_model.specs.Outcome.{Out, Gives, Traps, Clashes, and_then, turn, alone, needed, known}
use Rattle.cal_model.specs.Env.{Var, Env, look_up, variable, with_local, item_at}

-- what a function gives: over the globals, by its name, for these arguments, if so many turns are left
abbrev pub Calls : Type 0
Calls = List Var → List ℕ → Values → ℕ → Out Value

-- ---- operators on values

abbrev pub computed : Computed → ℕ → Out Value
computed (arithmetic.Gives z) left = Gives (Num z) left
computed (arithmetic.Traps c) left = Traps c

abbrev pub prefixed : PrefixOp → Value → ℕ → Out Value
prefixed Not (Truth b) left = Gives (Truth (not b)) left
prefixed Neg (Num a) left = computed (neg a) left
prefixed BitNot (Num a) left = Gives (Num (bit_not a)) left
prefixed op v left = Clashes

abbrev pub of_numbers : BinOp → ℤ → ℤ → ℕ → Out Value
of_numbers Add a b left = computed (add a b) left
of_numbers Sub a b left = computed (sub a b) left
of_numbers Mul a b left = computed (mul a b) left
of_numbers Div a b left = computed (div a b) left
of_numbers Mod a b left = computed (rem a b) left
of_numbers Shl a b left = computed (shl a b) left
of_numbers Shr a b left = computed (shr a b) left
of_numbers BitAnd a b left = Gives (Num (bit_and a b)) left
of_numbers BitOr a b left = Gives (Num (bit_or a b)) left
of_numbers BitXor a b left = Gives (Num (bit_xor a b)) left
of_numbers Eq a b left = Gives (Truth (is_equal a b)) left
of_numbers Ne a b left = Gives (Truth (not (is_equal a b))) left
of_numbers Lt a b left = Gives (Truth (is_below a b)) left
of_numbers Le a b left = Gives (Truth (not (is_below b a))) left
of_numbers Gt a b left = Gives (Truth (is_below b a)) left
of_numbers Ge a b left = Gives (Truth (not (is_below a b))) left
of_numbers And a b left = Clashes
of_numbers Or a b left = Clashes

-- two truth values are equal
abbrev pub is_same : Bool → Bool → Bool
is_same a b = if a then b else not b

abbrev pub of_truths : BinOp → Bool → Bool → ℕ → Out Value
of_truths And a b left = Gives (Truth (a && b)) left
of_truths Or a b left = Gives (Truth (a || b)) left
of_truths Eq a b left = Gives (Truth (is_same a b)) left
of_truths Ne a b left = Gives (Truth (not (is_same a b))) left
of_truths op a b left = Clashes

abbrev pub applied : BinOp → Value → Value → ℕ → Out Value
applied op (Num a) (Num b) left = of_numbers op a b left
applied op (Truth a) (Truth b) left = of_truths op a b left
applied op v w left = Clashes

-- An operation once its left side is evaluated. The right side of `and` and `or` is evaluated only if the left
-- one doesn't decide.
abbrev pub with_right : BinOp → Value → (ℕ → Out Value) → ℕ → Out Value
with_right And (Truth false) right left = Gives (Truth false) left
with_right Or (Truth true) right left = Gives (Truth true) left
with_right op v right left = and_then (right left) (λ w m. applied op v w m)

-- the branch that a condition chooses
abbrev pub chosen : {A : Type 0} → Value → (ℕ → Out A) → (ℕ → Out A) → ℕ → Out A
chosen (Truth true) f g left = f left
chosen (Truth false) f g left = g left
chosen v f g left = Clashes

abbrev pub indexed : Value → Value → ℕ → Out Value
indexed (Items vs) (Num i) left = item_at vs i left
indexed v w left = Clashes

-- ---- ranges

-- how many numbers there are from a to b, both included
abbrev pub span : ℤ → ℤ → ℕ
span a b = if int_lt b a then 0 else suc (unsigned_abs (b -ℤ a))

-- both ends of a range as numbers
abbrev pub range_of : {A : Type 0} → Value → Value → (ℤ → ℤ → Out A) → Out A
range_of (Num a) (Num b) f = f a b
range_of v w f = Clashes

-- one list after another, for so many numbers from i on
abbrev pub each_from : ℕ → ℤ → (ℤ → ℕ → Out Values) → ℕ → Out Values
each_from zero i f left = Gives Nil left
each_from (suc n) i f left = and_then (f i left)
    (λ vs m. and_then (each_from n (i +ℤ pos 1) f m) (λ ws k. Gives (joined vs ws) k))

-- ---- types

-- the arguments that a type is given
pub record Given : Type 0 where
  pub items : Option Shape
  pub size : Option ℕ

abbrev pub nothing_given : Given
nothing_given = record { items = None; size = None }

-- a size of bits, or 32 if none is given
abbrev pub bits : Option ℕ → (ℕ → Shape) → Option Shape
bits None f = Some (f default_size)
bits (Some n) f = if nat_le 1 n && nat_le n max_size then Some (f n) else None

abbrev pub list_of : Given → Option Shape
list_of given = elim given.items
    [ None ↦ None | Some items ↦ elim given.size [ None ↦ None | Some n ↦ Some (Many n items) ] ]

-- the type of a name with these arguments
abbrev pub type_named : List ℕ → Given → Option Shape
type_named name given =
    if bytes_eq name (codes "bool") then Some (Single scalar.Bool)
    else if bytes_eq name (codes "int") then bits given.size (λ n. Single (scalar.Int n))
    else if bytes_eq name (codes "uint") then bits given.size (λ n. Single (scalar.Uint n))
    else if bytes_eq name (codes "List") then list_of given
    else None

abbrev pub size_of_value : Value → Option ℕ
size_of_value (Num (pos n)) = Some n
size_of_value v = None

-- ---- evaluation

abbrev mutual
  pub eval : Tree → Calls → Env → ℕ → Out Value
  eval (tree.number n at) calls env left = computed (whole (pos n)) left
  eval (tree.truth b at) calls env left = Gives (Truth b) left
  eval (tree.variable name at) calls env left = known (look_up name env) left
  -- the arguments, then one turn, then the function's locals and its body
  eval (tree.call name args at) calls env left = and_then (eval_all args calls env left)
      (λ vs m. turn m (λ k. calls env.globals name vs k))
  eval (tree.paren e at) calls env left = eval e calls env left
  eval (tree.if_expr test first other at) calls env left =
      and_then (eval test calls env left)
      (λ v m. chosen v (λ k. eval first calls env k) (λ k. eval other calls env k) m)
  eval (tree.list items at) calls env left = and_then (eval_all items calls env left)
      (λ vs m. Gives (Items vs) m)
  eval (tree.comp item gens at) calls env left =
      and_then (elements gens (λ inner k. eval item calls inner k) calls env left)
      (λ vs m. Gives (Items vs) m)
  eval (tree.index base place at) calls env left =
      and_then (eval base calls env left)
      (λ v m. and_then (eval place calls env m) (λ i k. indexed v i k))
  eval (tree.prefix op e at) calls env left = and_then (eval e calls env left)
      (λ v m. prefixed op v m)
  eval (tree.binary op l r at) calls env left = and_then (eval l calls env left)
      (λ v m. with_right op v (λ k. eval r calls env k) m)
  -- what is no expression
  eval other calls env left = Clashes

  -- expressions in order
  pub eval_all : Tree → Calls → Env → ℕ → Out Values
  eval_all tree.nil calls env left = Gives Nil left
  eval_all (tree.cons e es) calls env left =
      and_then (eval e calls env left)
      (λ v m. and_then (eval_all es calls env m) (λ vs k. Gives (Cons v vs) k))
  eval_all other calls env left = Clashes

  -- The elements of a comprehension: the first generator is outermost, and one turn comes before each element.
  -- Bounds are constant, and count for themselves.
  pub elements : Tree → (Env → ℕ → Out Value) → Calls → Env → ℕ → Out Values
  elements tree.nil item calls env left = turn left
      (λ m. and_then (item env m) (λ v k. Gives (one v) k))
  elements (tree.cons (tree.gen shape (tree.ident name place) from to at) gens) item calls env
      left =
      and_then (type_meant shape calls env left) (λ t h.
      and_then (alone (eval from calls env max_turns) h) (λ a j.
      and_then (alone (eval to calls env max_turns) j) (λ b k.
      range_of a b (λ low high.
      each_from (span low high) low (λ i m. elements gens item calls
      (with_local (variable name t false (stored t (Num i))) env) m) k))))
  elements other item calls env left = Clashes

  -- the type that is meant; its sizes are constant, and count for themselves
  pub type_meant : Tree → Calls → Env → ℕ → Out Shape
  type_meant (tree.type_of (tree.ident name place) args at) calls env left =
      and_then (args_given args calls env left) (λ given m. needed (type_named name given) m)
  type_meant other calls env left = Clashes

  pub args_given : Tree → Calls → Env → ℕ → Out Given
  args_given tree.nil calls env left = Gives nothing_given left
  args_given (tree.cons (tree.shape_arg name shape) args) calls env left =
      and_then (type_meant shape calls env left) (λ t m.
      and_then (args_given args calls env m) (λ given k. Gives (record given { items = Some t }) k))
  args_given (tree.cons (tree.value_arg name value) args) calls env left =
      and_then (alone (eval value calls env max_turns) left) (λ v m.
      and_then (args_given args calls env m)
      (λ given k. Gives (record given { size = size_of_value v }) k))
  args_given other calls env left = Clashes
