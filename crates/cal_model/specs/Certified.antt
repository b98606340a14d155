-- The certification rule: actors of which more tokens never change what they do (Kahn 1974, for each firing; the
-- rule itself is this profile's).
-- Trusted: part of what a promise means.
use Rattle.std.specs.Prelude.{◌≡◌, ◌≢◌, ℕ, zero, suc, ◌+◌, ◌-◌, ◌≤◌, ◌^◌, ◌⊎◌, Bool, true, false, ◌&&◌, List, [], ◌∷◌, ◌++◌, length, ℤ, pos, ◌+ℤ◌, ◌-ℤ◌, ◌*ℤ◌, ◌≤ℤ◌, ◌<ℤ◌, neg_ℤ, int_lt, int_le, if◌then◌else◌, Option, None, Some, slice_get}
use Rattle.std.specs.Str.{bytes_eq}
use Rattle.std.specs.Int.{int_min, int_max}
use Rattle.rvc_base.specs.declared.scalar.Scalar.{Scalar}
use Rattle.rvc_base.specs.declared.scalar.Scalar.TheVariants as scalar
use Rattle.rvc_base.specs.Arithmetic.{truth}
use Rattle.rvc_base.specs.Width.{is_num, least_num, greatest_num, max_shift}
use Rattle.cal_ast.specs.declared.expr.PrefixOp.{PrefixOp}
use Rattle.cal_ast.specs.declared.expr.PrefixOp.TheVariants.{Not, Neg, BitNot}
use Rattle.cal_ast.specs.declared.expr.BinOp.{BinOp}
use Rattle.cal_ast.specs.declared.expr.BinOp.TheVariants.{And, BitOr, BitXor, BitAnd, Eq, Ne, Lt, Le, Gt, Ge, Shl, Shr, Add, Sub, Mul, Div, Mod}
use Rattle.cal_ast.specs.Tree as tree
use Rattle.cal_ast.specs.Tree.{Tree}
use Rattle.cal_ast.specs.Apart.{IsEqualApart}
use Rattle.cal_model.specs.Value.{Shape, Single, Many, Value, Num, Truth, Items, Values, Nil, Cons}
use Rattle.cal_model.specs.Actor.{Held, Pattern, Action, Actor}
use Rattle.cal_model.specs.Rates.{need}
use Rattle.cal_model.specs.Eligible.{IsStateOf, eligible}
use Rattle.cal_model.specs.Selection.{Above, kind_of_port}
use Rattle.cal_model.specs.Sound.{Each}

-- ---- intervals

pub record Interval : Type 0 where
  pub low : ℤ
  pub high : ℤ

abbrev pub just : ℤ → Interval
just z = record { low = z; high = z }

abbrev pub between : ℤ → ℤ → Interval
between a b = record { low = a; high = b }

abbrev pub hull : Interval → Interval → Interval
hull i j = between (int_min i.low j.low) (int_max i.high j.high)

-- all numbers of the language
abbrev pub all_numbers : Interval
all_numbers = between least_num greatest_num

abbrev pub truths : Interval
truths = between (pos 0) (pos 1)

-- an interval of numbers of the language
abbrev pub fitting : Interval → Option Interval
fitting i = if is_num i.low && is_num i.high then Some i else None

abbrev pub lies_within : Interval → ℤ → ℤ → Bool
lies_within i a b = int_le a i.low && int_le i.high b

-- the hull of the results at the ends
abbrev pub at_ends : (ℤ → ℤ → ℤ) → Interval → Interval → Interval
at_ends f i j = hull (hull (just (f i.low j.low)) (just (f i.low j.high)))
    (hull (just (f i.high j.low)) (just (f i.high j.high)))

-- the numbers of a type
abbrev pub type_range : Scalar → Interval
type_range scalar.Bool = truths
type_range (scalar.Int n) = between (neg_ℤ (pos (2 ^ (n - 1)))) (pos (2 ^ (n - 1)) -ℤ pos 1)
type_range (scalar.Uint n) = between (pos 0) (pos (2 ^ n) -ℤ pos 1)

abbrev mutual
  -- from the least to the greatest scalar of a value, if it has any
  pub scalars_range : Value → Option Interval
  scalars_range (Num z) = Some (just z)
  scalars_range (Truth b) = Some (just (truth b))
  scalars_range (Items vs) = all_scalars_range vs

  pub all_scalars_range : Values → Option Interval
  all_scalars_range Nil = None
  all_scalars_range (Cons v vs) = elim (scalars_range v) [
    | None ↦ all_scalars_range vs
    | Some i ↦ elim (all_scalars_range vs) [ None ↦ Some i | Some j ↦ Some (hull i j) ]
  ]

-- ---- names of guards

-- a name with its type, and its value if it is a constant
pub record Ranged : Type 0 where
  pub name : List ℕ
  pub shape : Shape
  pub value : Option Value

abbrev pub ranged : List ℕ → List Ranged → Option Ranged
ranged name [] = None
ranged name (x ∷ xs) = if bytes_eq x.name name then Some x else ranged name xs

abbrev pub ranged_vars : List Held → List Ranged
ranged_vars [] = []
ranged_vars (x ∷ xs) =
    record { name = x.name; shape = x.shape; value = if x.changes then None else Some x.value }
    ∷ ranged_vars xs

abbrev pub shape_of_tokens : Scalar → Option ℕ → Shape
shape_of_tokens t None = Single t
shape_of_tokens t (Some n) = Many n (Single t)

-- the names of a pattern, the later ones in front
abbrev pub ranged_names : Shape → List (List ℕ) → List Ranged
ranged_names t [] = []
ranged_names t (name ∷ names) = ranged_names t names
    ++ record { name = name; shape = t; value = None } ∷ []

-- the pattern variables of an action, those of later patterns in front
abbrev pub ranged_patterns : Actor → List Pattern → List Ranged
ranged_patterns actor [] = []
ranged_patterns actor (q ∷ qs) = ranged_patterns actor qs
    ++ ranged_names (shape_of_tokens (kind_of_port actor.ins q.port) q.repeat) q.names

-- the names that the guards of an action see
abbrev pub guard_names : Actor → Action → List Ranged
guard_names actor act = ranged_patterns actor act.patterns ++ ranged_vars actor.vars

-- ---- the range of an expression

abbrev pub range_of_prefix : PrefixOp → Interval → Option Interval
range_of_prefix Not i = Some truths
range_of_prefix Neg i = fitting (between (neg_ℤ i.high) (neg_ℤ i.low))
range_of_prefix BitNot i = Some all_numbers

abbrev pub range_of_both : BinOp → Interval → Interval → Option Interval
range_of_both Add i j = fitting (at_ends (λ a b. a +ℤ b) i j)
range_of_both Sub i j = fitting (at_ends (λ a b. a -ℤ b) i j)
range_of_both Mul i j = fitting (at_ends (λ a b. a *ℤ b) i j)
range_of_both Div i j = if int_lt (pos 0) j.low then fitting (hull i (just (pos 0))) else None
range_of_both Mod i j = if int_lt (pos 0) j.low
    then fitting (between (pos 1 -ℤ j.high) (j.high -ℤ pos 1)) else None
range_of_both Shr i j = if lies_within j (pos 0) (pos max_shift)
    then fitting (hull i (just (pos 0))) else None
range_of_both Shl i j = None
range_of_both BitAnd i j = Some all_numbers
range_of_both BitOr i j = Some all_numbers
range_of_both BitXor i j = Some all_numbers
range_of_both op i j = Some truths

-- the range of what has this type, and this value if it is or is part of a constant
abbrev pub range_of_name : Ranged → Option Interval
range_of_name x = elim x.shape [
  | Single t ↦ elim x.value [
    | None ↦ fitting
        (type_range t)
    | Some v ↦ elim (scalars_range v) [ None ↦ None | Some i ↦ fitting i ]
  ]
  | Many n items ↦ None
]

-- what stands in a list at a place within this interval
abbrev pub item_ranged : Interval → Ranged → Option Ranged
item_ranged i x = elim x.shape [
  | Single t ↦ None
  | Many n items ↦ if lies_within i (pos 0) (pos n -ℤ pos 1) then Some (record x { shape = items })
      else None
]

abbrev pub on_interval : {A : Type 0} → Option Interval → (Interval → Option A) → Option A
on_interval None f = None
on_interval (Some i) f = f i

abbrev pub on_ranged : {A : Type 0} → Option Ranged → (Ranged → Option A) → Option A
on_ranged None f = None
on_ranged (Some x) f = f x

abbrev mutual
  pub range : Tree → List Ranged → Option Interval
  range (tree.number n at) names = fitting (just (pos n))
  range (tree.truth b at) names = Some (just (truth b))
  range (tree.variable name at) names = on_ranged (ranged name names) (λ x. range_of_name x)
  range (tree.paren e at) names = range e names
  range (tree.if_expr test first other at) names =
      on_interval (range test names)
      (λ c. on_interval (range first names)
      (λ i. on_interval (range other names) (λ j. Some (hull i j))))
  range (tree.index base place at) names =
      on_ranged (indexed base names)
      (λ x. on_interval (range place names)
      (λ i. on_ranged (item_ranged i x) (λ y. range_of_name y)))
  range (tree.prefix op e at) names = on_interval (range e names) (λ i. range_of_prefix op i)
  range (tree.binary op l r at) names = on_interval (range l names)
      (λ i. on_interval (range r names) (λ j. range_of_both op i j))
  range other names = None

  -- a name, or an index on a name, as what is indexed
  pub indexed : Tree → List Ranged → Option Ranged
  indexed (tree.variable name at) names = ranged name names
  indexed (tree.index base place at) names = on_ranged (indexed base names)
      (λ x. on_interval (range place names) (λ i. item_ranged i x))
  indexed other names = None

-- ---- what guards hold

-- no call and no comprehension
abbrev pub IsBare : Tree → Type 0
IsBare (tree.call name args at) = ⊥
IsBare (tree.comp item gens at) = ⊥
IsBare (tree.paren e at) = IsBare e
IsBare (tree.if_expr test first other at) = IsBare test × IsBare first × IsBare other
IsBare (tree.list items at) = IsBare items
IsBare (tree.cons e es) = IsBare e × IsBare es
IsBare (tree.index base place at) = IsBare base × IsBare place
IsBare (tree.prefix op e at) = IsBare e
IsBare (tree.binary op l r at) = IsBare l × IsBare r
IsBare other = Unit {0}

-- the parts between `and`
abbrev pub conjuncts : Tree → List Tree
conjuncts (tree.binary And l r at) = conjuncts l ++ conjuncts r
conjuncts other = other ∷ []

abbrev pub all_conjuncts : List Tree → List Tree
all_conjuncts [] = []
all_conjuncts (g ∷ gs) = conjuncts g ++ all_conjuncts gs

-- ---- pattern variables by their tokens

-- so many places, from this one on, each so far behind the one before it
abbrev pub places_from : ℕ → ℕ → ℕ → List ℕ
places_from zero k far = []
places_from (suc n) k far = k ∷ places_from n (k + far) far

-- A text for the token of a port at a place, or for the list of those at the places that a repeated name holds. It
-- tells a token and a list apart.
abbrev pub token_key : ℕ → Option ℕ → ℕ → ℕ → List ℕ
token_key port None names k = 0 ∷ port ∷ k ∷ []
token_key port (Some n) names k = 1 ∷ port ∷ places_from n k names

-- the tokens of a name among those of a pattern from place k on, of which a later one hides an earlier one
abbrev pub key_among : List ℕ → Pattern → ℕ → List (List ℕ) → Option (List ℕ)
key_among name q k [] = None
key_among name q k (other ∷ names) = elim (key_among name q (suc k) names) [
  | Some key ↦ Some key
  | None ↦ if bytes_eq other name then Some (token_key q.port q.repeat (length q.names) k) else None
]

-- .. and among those of patterns, as evaluation finds them
abbrev pub key_in : List ℕ → List Pattern → Option (List ℕ)
key_in name [] = None
key_in name (q ∷ qs) =
    elim (key_in name qs) [ Some key ↦ Some key | None ↦ key_among name q 0 q.names ]

-- A name as what it stands for: a pattern variable is its tokens. These stand as an identifier, which no expression is,
-- so that no variable can be taken for them.
abbrev pub keyed_name : List ℕ → ℕ → List Pattern → Tree
keyed_name name at qs =
    elim (key_in name qs) [ Some key ↦ tree.ident key at | None ↦ tree.variable name at ]

-- a conjunct with the tokens in place of the pattern variables
abbrev pub keyed : Tree → List Pattern → Tree
keyed (tree.variable name at) qs = keyed_name name at qs
keyed (tree.paren e at) qs = tree.paren (keyed e qs) at
keyed (tree.if_expr test first other at) qs =
    tree.if_expr (keyed test qs) (keyed first qs) (keyed other qs) at
keyed (tree.list items at) qs = tree.list (keyed items qs) at
keyed (tree.cons e es) qs = tree.cons (keyed e qs) (keyed es qs)
keyed (tree.index base place at) qs = tree.index (keyed base qs) (keyed place qs) at
keyed (tree.prefix op e at) qs = tree.prefix op (keyed e qs) at
keyed (tree.binary op l r at) qs = tree.binary op (keyed l qs) (keyed r qs) at
keyed other qs = other

-- ---- conjuncts that exclude each other

-- a literal with or without a `-`
abbrev pub literal : Tree → Option ℤ
literal (tree.number n at) = Some (pos n)
literal (tree.prefix Neg (tree.number n place) at) = Some (neg_ℤ (pos n))
literal other = None

-- a comparison of numbers holds
abbrev pub Holds : BinOp → ℤ → ℤ → Type 0
Holds Eq z n = z ≡ n
Holds Ne z n = z ≢ n
Holds Lt z n = z <ℤ n
Holds Le z n = z ≤ℤ n
Holds Gt z n = n <ℤ z
Holds Ge z n = n ≤ℤ z
Holds op z n = ⊥

abbrev pub is_comparison : BinOp → Bool
is_comparison Eq = true
is_comparison Ne = true
is_comparison Lt = true
is_comparison Le = true
is_comparison Gt = true
is_comparison Ge = true
is_comparison op = false

-- the conjunct is `e op n`
pub record Compares (conjunct e : Tree) (op : BinOp) (n : ℤ) : Type 0 where
  pub right : Tree
  pub at : ℕ
  pub is : conjunct ≡ tree.binary op e right at
  pub comparison : is_comparison op ≡ true
  pub number : literal right ≡ Some n

-- they compare the same with numbers, and no whole number meets both
pub record CompareApart (c d : Tree) : Type 0 where
  pub left : Tree
  pub other : Tree
  pub one_op : BinOp
  pub other_op : BinOp
  pub n : ℤ
  pub m : ℤ
  pub one : Compares c left one_op n
  pub two : Compares d other other_op m
  pub same : IsEqualApart left other
  pub never : (z : ℤ) → Holds one_op z n → ¬ Holds other_op z m

-- the second is `not` the first
pub record IsNotOf (c d : Tree) : Type 0 where
  pub inner : Tree
  pub at : ℕ
  pub is : d ≡ tree.prefix Not inner at
  pub same : IsEqualApart c inner

abbrev pub Exclude : Tree → Tree → Type 0
Exclude c d = CompareApart c d ⊎ (IsNotOf c d ⊎ IsNotOf d c)

-- this holds of some element
abbrev pub AnyOf : {A : Type 0} → (A → Type 0) → List A → Type 0
AnyOf P [] = ⊥
AnyOf P (x ∷ xs) = P x ⊎ AnyOf P xs

-- a conjunct of the one's guards and one of the other's exclude each other
abbrev pub GuardsExclude : Action → Action → Type 0
GuardsExclude one two =
    AnyOf (λ c. AnyOf (λ d. Exclude (keyed c one.patterns) (keyed d two.patterns))
    (all_conjuncts two.guards)) (all_conjuncts one.guards)

-- ---- the rule

-- one is above the other and needs no more tokens than the other on any port
pub record IsModest (actor : Actor) (a b : ℕ) : Type 0 where
  pub above : Above actor a b
  pub no_more : (port : ℕ) → need actor a port ≤ need actor b port

-- the guards hold no call and no comprehension, and have a range
abbrev pub HasTameGuards : Actor → Action → Type 0
HasTameGuards actor act = Each
    (λ g. IsBare g × ((i : Interval) × (range g (guard_names actor act) ≡ Some i))) act.guards

-- In each state: the guards of each eligible action are tame, and of each two eligible actions one is above the
-- other without needing more, or their guards exclude each other.
pub record IsCertified (actor : Actor) : Type 0 where
  pub guards : (s a : ℕ) (act : Action) → IsStateOf actor s → slice_get actor.actions a ≡ Some act
      → eligible actor s a ≡ true → HasTameGuards actor act
  pub pairs : (s a b : ℕ) (one two : Action) → IsStateOf actor s
      → slice_get actor.actions a ≡ Some one → slice_get actor.actions b ≡ Some two → a ≢ b
      → eligible actor s a ≡ true → eligible actor s b ≡ true
      → (IsModest actor a b ⊎ IsModest actor b a) ⊎ GuardsExclude one two
