-- The kind of an expression, over the kinds of its names and the values of its constants (ISO/IEC 23001-4, RVC-CAL:
-- expressions and types).
--
-- Parts come before wholes, and from left to right: if an expression has no kind, the first rule that it breaks is
-- named with its place.
-- Trusted: part of what a promise means.
use Rattle.std.specs.Prelude.{ℕ, zero, suc, ◌*◌, Bool, true, false, not, ◌&&◌, ◌||◌, ◌==◌, nat_le, List, [], ◌∷◌, ◌++◌, length, codes, ℤ, pos, negsuc, if◌then◌else◌, Option, None, Some}
use Rattle.std.specs.Str.{bytes_eq}
use Rattle.rvc_base.specs.declared.scalar.Scalar.{Scalar}
use Rattle.rvc_base.specs.declared.scalar.Scalar.TheVariants as scalar
use Rattle.rvc_base.specs.Rules.{unknown_name, wrong_kind, wrong_type_argument, unsupported_type, wrong_length, wrong_number_of_arguments, constant_traps, not_constant, list_too_long}
use Rattle.rvc_base.specs.Turns.{max_turns}
use Rattle.rvc_base.specs.declared.refusal.Rule.{Rule}
use Rattle.rvc_base.specs.Width.{default_size, max_size}
use Rattle.cal_ast.specs.declared.expr.PrefixOp.{PrefixOp}
use Rattle.cal_ast.specs.declared.expr.PrefixOp.TheVariants.{Not, Neg, BitNot}
use Rattle.cal_ast.specs.declared.expr.BinOp.{BinOp}
use Rattle.cal_ast.specs.declared.expr.BinOp.TheVariants.{Or, And, Eq, Ne, Lt, Le, Gt, Ge}
use Rattle.cal_ast.specs.Places.{begins}
use Rattle.cal_ast.specs.Tree as tree
use Rattle.cal_ast.specs.Tree.{Tree}
use Rattle.cal_model.specs.Value.{Kind, NumKind, BoolKind, ListKind, Shape, Single, Many, Value, Num, kind_of_scalar, kind_of_type, scalars_of_kind, scalars_of_type, max_list_scalars}
use Rattle.cal_model.specs.Outcome.{Out, Gives, Traps}
use Rattle.cal_model.specs.Env.{Var}
use Rattle.cal_model.specs.Expression.{Calls, eval, span}
use Rattle.cal_model.specs.Actor.{Local, Fun}
use Rattle.cal_model.specs.Call.{calls_of, fun_named}

-- ---- judgements

-- what is found, or the first rule that is broken, with its place
pub data Judged (A : Type 0) : Type 0 where
  Fine : A → Judged A
  Broken : (rule : Rule) (at : ℕ) → Judged A

abbrev pub and_so : {A B : Type 0} → Judged A → (A → Judged B) → Judged B
and_so (Fine a) f = f a
and_so (Broken rule at) f = Broken rule at

-- ---- names

-- a name with its kind, its value if it is a constant, and whether it may be assigned
pub record Known : Type 0 where
  pub name : List ℕ
  pub kind : Kind
  pub value : Option Value
  pub changes : Bool

-- The names of an actor or of a file, those declared inside, the innermost first, and the functions.
pub record Names : Type 0 where
  pub globals : List Known
  pub locals : List Known
  pub funs : List Fun

abbrev pub known_as : List ℕ → List Known → Option Known
known_as name [] = None
known_as name (x ∷ xs) = if bytes_eq x.name name then Some x else known_as name xs

abbrev pub meant_by : List ℕ → Names → Option Known
meant_by name names = known_as name (names.locals ++ names.globals)

abbrev pub with_known : Known → Names → Names
with_known x names = record names { locals = x ∷ names.locals }

-- a variable of a loop or a generator: a number that isn't assigned
abbrev pub counter : List ℕ → Known
counter name = record { name = name; kind = NumKind; value = None; changes = false }

-- ---- constants

abbrev pub without : List ℕ → List Var → List Var
without name [] = []
without name (x ∷ xs) = if bytes_eq x.name name then without name xs else x ∷ without name xs

-- The constants among names. A name without a value hides a constant.
abbrev pub constants : List Known → List Var
constants [] = []
constants (x ∷ xs) = elim x.value [
  | None ↦ without x.name (constants xs)
  | Some v ↦
      record { name = x.name; value = v; kept = None } ∷ constants xs
]

-- functions see the names of the actor alone
abbrev pub constant_calls : Names → Calls
constant_calls names globals name args left =
    calls_of names.funs (constants names.globals) name args left

-- what an expression gives over the constants
abbrev pub constant : Tree → Names → Out Value
constant e names = eval e (constant_calls names)
    (record { globals = constants (names.locals ++ names.globals); locals = [] }) max_turns

-- ---- places

-- the number that a constant expression of some kind gives
abbrev pub number_given : Out Value → ℕ → Judged ℤ
number_given (Gives (Num z) left) at = Fine z
number_given (Traps c) at = Broken constant_traps at
number_given other at = Broken not_constant at

abbrev pub constant_number : Judged Kind → Tree → Names → Judged ℤ
constant_number (Fine NumKind) e names = number_given (constant e names) (begins e)
constant_number (Fine BoolKind) e names = Broken wrong_kind (begins e)
constant_number (Fine (ListKind n k)) e names = Broken wrong_kind (begins e)
constant_number (Broken rule at) e names = Broken rule at

-- ---- kinds side by side

-- the same but for the lengths of lists
abbrev pub is_like : Kind → Kind → Bool
is_like NumKind NumKind = true
is_like BoolKind BoolKind = true
is_like (ListKind n k) (ListKind m l) = is_like k l
is_like k l = false

abbrev pub is_same_kind : Kind → Kind → Bool
is_same_kind NumKind NumKind = true
is_same_kind BoolKind BoolKind = true
is_same_kind (ListKind n k) (ListKind m l) = (n == m) && is_same_kind k l
is_same_kind k l = false

-- the one kind that both are, if a value of the second stands for one of the first
abbrev pub one_kind : Kind → Kind → ℕ → Judged Kind
one_kind k l at = if is_same_kind k l then Fine k else if is_like k l then Broken wrong_length at
    else Broken wrong_kind at

abbrev pub all_like : Kind → List Kind → Bool
all_like k [] = true
all_like k (l ∷ ls) = is_like k l && all_like k ls

abbrev pub all_same : Kind → List Kind → Bool
all_same k [] = true
all_same k (l ∷ ls) = is_same_kind k l && all_same k ls

-- A list of n items of a kind. Neither its scalars nor its items, which may be empty lists, are too many.
abbrev pub list_of_kind : ℕ → Kind → ℕ → Judged Kind
list_of_kind n k at =
    if nat_le n max_list_scalars && nat_le (n * scalars_of_kind k) max_list_scalars
    then Fine (ListKind n k) else Broken list_too_long at

-- a list of items of these kinds, which are one
abbrev pub list_kind : List Kind → ℕ → Judged Kind
list_kind [] at = Broken wrong_kind at
list_kind (k ∷ ks) at =
    if not (all_like k ks) then Broken wrong_kind at
    else if not (all_same k ks) then Broken wrong_length at
    else list_of_kind (suc (length ks)) k at

-- ---- kinds of operations

abbrev pub prefix_kind : PrefixOp → Kind → ℕ → Judged Kind
prefix_kind Not BoolKind at = Fine BoolKind
prefix_kind Neg NumKind at = Fine NumKind
prefix_kind BitNot NumKind at = Fine NumKind
prefix_kind op k at = Broken wrong_kind at

abbrev pub kind_over_numbers : BinOp → ℕ → Judged Kind
kind_over_numbers And at = Broken wrong_kind at
kind_over_numbers Or at = Broken wrong_kind at
kind_over_numbers Eq at = Fine BoolKind
kind_over_numbers Ne at = Fine BoolKind
kind_over_numbers Lt at = Fine BoolKind
kind_over_numbers Le at = Fine BoolKind
kind_over_numbers Gt at = Fine BoolKind
kind_over_numbers Ge at = Fine BoolKind
kind_over_numbers op at = Fine NumKind

abbrev pub kind_over_truths : BinOp → ℕ → Judged Kind
kind_over_truths And at = Fine BoolKind
kind_over_truths Or at = Fine BoolKind
kind_over_truths Eq at = Fine BoolKind
kind_over_truths Ne at = Fine BoolKind
kind_over_truths op at = Broken wrong_kind at

abbrev pub binary_kind : BinOp → Kind → Kind → ℕ → Judged Kind
binary_kind op NumKind NumKind at = kind_over_numbers op at
binary_kind op BoolKind BoolKind at = kind_over_truths op at
binary_kind op k l at = Broken wrong_kind at

abbrev pub item_kind : Kind → Kind → ℕ → Judged Kind
item_kind (ListKind n k) NumKind at = Fine k
item_kind k l at = Broken wrong_kind at

abbrev pub branch_kind : Kind → Kind → Kind → ℕ → Judged Kind
branch_kind BoolKind k l at = one_kind k l at
branch_kind c k l at = Broken wrong_kind at

-- ---- types

-- an argument of a type, by its name
pub data Argument : Type 0 where
  OfShape : List ℕ → Shape → Argument
  OfSize : List ℕ → ℤ → Argument

abbrev pub is_word : List ℕ → Bool
is_word name =
    bytes_eq name (codes "bool") || bytes_eq name (codes "int") || bytes_eq name (codes "uint")
    || bytes_eq name (codes "List") || bytes_eq name (codes "float") || bytes_eq name (codes "half")
    || bytes_eq name (codes "String")

abbrev pub bits_of : ℤ → (ℕ → Scalar) → ℕ → Judged Shape
bits_of (pos n) f at = if nat_le 1 n && nat_le n max_size then Fine (Single (f n))
    else Broken wrong_type_argument at
bits_of (negsuc n) f at = Broken wrong_type_argument at

-- a number type, whose one argument may be its size
abbrev pub number_type : List Argument → (ℕ → Scalar) → ℕ → Judged Shape
number_type [] f at = Fine (Single (f default_size))
number_type (OfSize name z ∷ []) f at =
    if bytes_eq name (codes "size") then bits_of z f at else Broken wrong_type_argument at
number_type args f at = Broken wrong_type_argument at

abbrev pub truth_type : List Argument → ℕ → Judged Shape
truth_type [] at = Fine (Single scalar.Bool)
truth_type args at = Broken wrong_type_argument at

abbrev pub list_type_of : Shape → ℤ → ℕ → Judged Shape
list_type_of t (pos zero) at = Broken wrong_type_argument at
list_type_of t (pos (suc n)) at = if nat_le (scalars_of_type (Many (suc n) t)) max_list_scalars
    then Fine (Many (suc n) t) else Broken list_too_long at
list_type_of t (negsuc n) at = Broken wrong_type_argument at

-- a list type, whose arguments are the type of its items and its size, in either order
abbrev pub list_type : List Argument → ℕ → Judged Shape
list_type (OfShape name t ∷ OfSize other z ∷ []) at =
    if bytes_eq name (codes "type") && bytes_eq other (codes "size") then list_type_of t z at
    else Broken wrong_type_argument at
list_type (OfSize other z ∷ OfShape name t ∷ []) at =
    if bytes_eq name (codes "type") && bytes_eq other (codes "size") then list_type_of t z at
    else Broken wrong_type_argument at
list_type args at = Broken wrong_type_argument at

abbrev pub type_with : List ℕ → List Argument → ℕ → Judged Shape
type_with name args at =
    if bytes_eq name (codes "bool") then truth_type args at
    else if bytes_eq name (codes "int") then number_type args (λ n. scalar.Int n) at
    else if bytes_eq name (codes "uint") then number_type args (λ n. scalar.Uint n) at
    else if bytes_eq name (codes "List") then list_type args at
    else Broken unsupported_type at

-- the variable of a loop or a generator has a number type
abbrev pub counts : Shape → ℕ → Judged Shape
counts (Single scalar.Bool) at = Broken wrong_kind at
counts (Single t) at = Fine (Single t)
counts (Many n t) at = Broken wrong_kind at

-- the names with the variables of generators
abbrev pub with_counters : Tree → Names → Names
with_counters (tree.cons (tree.gen shape (tree.ident name place) from to at) gens) names =
    with_counters gens (with_known (counter name) names)
with_counters other names = names

-- ---- the kind of an expression

abbrev mutual
  pub kind : Tree → Names → Judged Kind
  kind (tree.number n at) names = Fine NumKind
  kind (tree.truth b at) names = Fine BoolKind
  kind (tree.variable name at) names =
      elim (meant_by name names) [ None ↦ Broken unknown_name at | Some x ↦ Fine x.kind ]
  kind (tree.call name args at) names = elim (fun_named name names.funs) [
    | None ↦ Broken unknown_name at
    | Some f ↦ and_so (arguments_fit args f.formals names)
        (λ as_many. if as_many then Fine (kind_of_scalar f.result)
        else Broken wrong_number_of_arguments at)
  ]
  kind (tree.paren e at) names = kind e names
  kind (tree.if_expr test first other at) names =
      and_so (kind test names) (λ c. and_so (kind first names)
      (λ k. and_so (kind other names) (λ l. branch_kind c k l at)))
  kind (tree.list items at) names = and_so (kinds items names) (λ ks. list_kind ks at)
  -- the item stands before its generators
  kind (tree.comp item gens at) names =
      and_so (kind item (with_counters gens names))
      (λ k. and_so (elements_in gens names) (λ n. list_of_kind n k at))
  kind (tree.index base place at) names = and_so (kind base names)
      (λ k. and_so (kind place names) (λ l. item_kind k l at))
  kind (tree.prefix op e at) names = and_so (kind e names) (λ k. prefix_kind op k at)
  kind (tree.binary op l r at) names = and_so (kind l names)
      (λ k. and_so (kind r names) (λ m. binary_kind op k m at))
  -- what is no expression
  kind other names = Broken wrong_kind 0

  pub kinds : Tree → Names → Judged (List Kind)
  kinds tree.nil names = Fine []
  kinds (tree.cons e es) names = and_so (kind e names)
      (λ k. and_so (kinds es names) (λ ks. Fine (k ∷ ks)))
  kinds other names = Broken wrong_kind 0

  -- whether there are as many arguments as formals; each is of its formal's kind
  pub arguments_fit : Tree → List Local → Names → Judged Bool
  arguments_fit tree.nil [] names = Fine true
  arguments_fit tree.nil (f ∷ fs) names = Fine false
  arguments_fit (tree.cons e es) [] names = and_so (kind e names)
      (λ k. and_so (arguments_fit es [] names) (λ as_many. Fine false))
  arguments_fit (tree.cons e es) (f ∷ fs) names =
      and_so (kind e names) (λ k. and_so (one_kind (kind_of_type f.shape) k (begins e))
      (λ l. arguments_fit es fs names))
  arguments_fit other fs names = Broken wrong_kind 0

  -- how many elements generators make
  pub elements_in : Tree → Names → Judged ℕ
  elements_in tree.nil names = Fine 1
  elements_in (tree.cons (tree.gen shape (tree.ident name place) from to at) gens) names =
      and_so (type_judged shape names) (λ t.
      and_so (counts t (begins shape)) (λ s.
      and_so (constant_number (kind from names) from names) (λ a.
      and_so (constant_number (kind to names) to names) (λ b.
      and_so (elements_in gens (with_known (counter name) names)) (λ n. Fine (span a b * n))))))
  elements_in other names = Broken wrong_kind 0

  -- the type that a type in a source is
  pub type_judged : Tree → Names → Judged Shape
  type_judged (tree.type_of (tree.ident name place) args at) names =
      if is_word name then and_so (type_arguments args names) (λ given. type_with name given at)
      else Broken unknown_name place
  type_judged other names = Broken wrong_kind 0

  pub type_arguments : Tree → Names → Judged (List Argument)
  type_arguments tree.nil names = Fine []
  type_arguments (tree.cons (tree.shape_arg (tree.ident name place) shape) args) names =
      and_so (type_judged shape names)
      (λ t. and_so (type_arguments args names) (λ others. Fine (OfShape name t ∷ others)))
  type_arguments (tree.cons (tree.value_arg (tree.ident name place) value) args) names =
      and_so (constant_number (kind value names) value names)
      (λ z. and_so (type_arguments args names) (λ others. Fine (OfSize name z ∷ others)))
  type_arguments other names = Broken wrong_kind 0
