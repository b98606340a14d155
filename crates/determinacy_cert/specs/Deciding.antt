-- The parts of the certification rule as tests, each of which can be computed.
-- Trusted: part of what a promise means.
use Rattle.std.specs.Prelude.{◌≡◌, ℕ, suc, Bool, true, false, not, ◌&&◌, ◌||◌, List, [], ◌∷◌, ℤ, pos, ◌+ℤ◌, int_le, int_lt, nat_le, if◌then◌else◌, Option, None, Some, is_some, ◌==◌}
use Rattle.std.specs.Str.{bytes_eq}
use Rattle.std.specs.Ordering.{int_eq}
use Rattle.rvc_base.specs.Width.{is_num}
use Rattle.cal_ast.specs.declared.expr.PrefixOp.{PrefixOp}
use Rattle.cal_ast.specs.declared.expr.PrefixOp.TheVariants.{Not, Neg, BitNot}
use Rattle.cal_ast.specs.declared.expr.BinOp.{BinOp}
use Rattle.cal_ast.specs.declared.expr.BinOp.TheVariants.{Or, And, BitOr, BitXor, BitAnd, Eq, Ne, Lt, Le, Gt, Ge, Shl, Shr, Add, Sub, Mul, Div, Mod}
use Rattle.cal_ast.specs.Tree as tree
use Rattle.cal_ast.specs.Tree.{Tree}
use Rattle.cal_model.specs.Actor.{Pattern, Action, Actor}
use Rattle.cal_model.specs.Rates.{need}
use Rattle.cal_model.specs.Certified.{Interval, Ranged, fitting, hull, just, on_interval, on_ranged, item_ranged, range, range_of_both, range_of_name, key_in, literal, is_comparison, all_conjuncts}

-- ---- numbers

-- a number of the language
abbrev pub numbered : ℤ → Option ℤ
numbered z = if is_num z then Some z else None

-- the hull of both, or the one that there is
abbrev pub joined : Option Interval → Option Interval → Option Interval
joined None j = j
joined (Some i) None = Some i
joined (Some i) (Some j) = Some (hull i j)

-- the parts of an `if`, an index and an operation, whose ranges are known

abbrev pub range_of_if : Option Interval → Option Interval → Option Interval → Option Interval
range_of_if test first other =
    on_interval test (λ c. on_interval first (λ i. on_interval other (λ j. Some (hull i j))))

-- what stands in a list at a place
abbrev pub item_at : Option Ranged → Option Interval → Option Ranged
item_at list place = on_ranged list (λ x. on_interval place (λ i. item_ranged i x))

abbrev pub range_of_item : Option Ranged → Option Interval → Option Interval
range_of_item list place = on_ranged list
    (λ x. on_interval place (λ i. on_ranged (item_ranged i x) (λ y. range_of_name y)))

abbrev pub range_of_operands : BinOp → Option Interval → Option Interval → Option Interval
range_of_operands op left right =
    on_interval left (λ i. on_interval right (λ j. range_of_both op i j))

-- ---- corners

-- each of these is this number, if it is one of the language
abbrev pub AreNumbered : (a b c d : Option ℤ) (w x y z : ℤ) → Type 0
AreNumbered a b c d w x y z =
    (a ≡ numbered w) × (b ≡ numbered x) × (c ≡ numbered y) × (d ≡ numbered z)

-- the least interval that holds four numbers, if it lies within the numbers of the language
abbrev pub corners_range : ℤ → ℤ → ℤ → ℤ → Option Interval
corners_range w x y z = fitting (hull (hull (just w) (just x)) (hull (just y) (just z)))

-- ---- names

-- the place at which a name stands last
abbrev pub last_place : List ℕ → List (List ℕ) → Option ℕ
last_place name [] = None
last_place name (other ∷ names) = elim (last_place name names)
    [ Some k ↦ Some (suc k) | None ↦ if bytes_eq other name then Some 0 else None ]

-- a pattern, and the place of a name in it
pub record Named : Type 0 where
  pub pattern : Pattern
  pub place : ℕ

-- the pattern in which a name stands last, and its place there
abbrev pub named_in : List ℕ → List Pattern → Option Named
named_in name [] = None
named_in name (q ∷ qs) = elim (named_in name qs) [
  | Some found ↦ Some found
  | None ↦ elim (last_place name q.names)
      [ None ↦ None | Some k ↦ Some (record { pattern = q; place = k }) ]
]

-- ---- guards

-- no call and no comprehension
abbrev pub is_bare : Tree → Bool
is_bare (tree.call name args at) = false
is_bare (tree.comp item gens at) = false
is_bare (tree.paren e at) = is_bare e
is_bare (tree.if_expr test first other at) = (is_bare test && is_bare first) && is_bare other
is_bare (tree.list items at) = is_bare items
is_bare (tree.cons e es) = is_bare e && is_bare es
is_bare (tree.index base place at) = is_bare base && is_bare place
is_bare (tree.prefix op e at) = is_bare e
is_bare (tree.binary op l r at) = is_bare l && is_bare r
is_bare other = true

abbrev pub are_bare : List Tree → Bool
are_bare [] = true
are_bare (g ∷ gs) = is_bare g && are_bare gs

abbrev pub have_ranges : List Ranged → List Tree → Bool
have_ranges names [] = true
have_ranges names (g ∷ gs) = is_some (range g names) && have_ranges names gs

-- ---- trees by their outermost form

abbrev pub as_number : Tree → Option ℕ
as_number (tree.number n at) = Some n
as_number other = None

abbrev pub as_truth : Tree → Option Bool
as_truth (tree.truth b at) = Some b
as_truth other = None

abbrev pub as_variable : Tree → Option (List ℕ)
as_variable (tree.variable name at) = Some name
as_variable other = None

abbrev pub as_paren : Tree → Option Tree
as_paren (tree.paren e at) = Some e
as_paren other = None

abbrev pub as_if : Tree → Option (Tree × Tree × Tree)
as_if (tree.if_expr test first other at) = Some (test, first, other)
as_if other = None

abbrev pub as_index : Tree → Option (Tree × Tree)
as_index (tree.index base place at) = Some (base, place)
as_index other = None

abbrev pub as_prefix : Tree → Option (PrefixOp × Tree)
as_prefix (tree.prefix op e at) = Some (op, e)
as_prefix other = None

abbrev pub as_binary : Tree → Option (BinOp × Tree × Tree)
as_binary (tree.binary op l r at) = Some (op, l, r)
as_binary other = None

-- ---- equal trees, ignoring offsets, with the tokens in place of the pattern variables

-- operators by numbers
abbrev pub prefix_number : PrefixOp → ℕ
prefix_number Not = 0
prefix_number Neg = 1
prefix_number BitNot = 2

abbrev pub op_number : BinOp → ℕ
op_number Or = 0
op_number And = 1
op_number BitOr = 2
op_number BitXor = 3
op_number BitAnd = 4
op_number Eq = 5
op_number Ne = 6
op_number Lt = 7
op_number Le = 8
op_number Gt = 9
op_number Ge = 10
op_number Shl = 11
op_number Shr = 12
op_number Add = 13
op_number Sub = 14
op_number Mul = 15
op_number Div = 16
op_number Mod = 17

abbrev pub same_truth : Bool → Bool → Bool
same_truth true c = c
same_truth false c = not c

-- both are the same tokens, or both are no pattern variables and have one name
abbrev pub same_names : List ℕ → Option (List ℕ) → List ℕ → Option (List ℕ) → Bool
same_names name None other None = bytes_eq name other
same_names name (Some key) other (Some more) = bytes_eq key more
same_names name None other (Some more) = false
same_names name (Some key) other None = false

-- The trees of expressions that have ranges, of which the names are keyed by these patterns. Other trees count as
-- different: an action that has them in a guard is refused for that guard.
abbrev pub same : Tree → List Pattern → Tree → List Pattern → Bool
same (tree.number n at) qs u rs = elim (as_number u) [ None ↦ false | Some m ↦ n == m ]
same (tree.truth b at) qs u rs = elim (as_truth u) [ None ↦ false | Some c ↦ same_truth b c ]
same (tree.variable name at) qs u rs = elim (as_variable u)
    [ None ↦ false | Some other ↦ same_names name (key_in name qs) other (key_in other rs) ]
same (tree.paren e at) qs u rs = elim (as_paren u) [ None ↦ false | Some f ↦ same e qs f rs ]
same (tree.if_expr test first other at) qs u rs =
    elim (as_if u) [
      | None ↦ false
      | Some p ↦
          (same test qs p.0 rs && same first qs p.1 rs) && same other qs p.2 rs
    ]
same (tree.index base place at) qs u rs =
    elim (as_index u) [ None ↦ false | Some p ↦ same base qs p.0 rs && same place qs p.1 rs ]
same (tree.prefix op e at) qs u rs = elim (as_prefix u)
    [ None ↦ false | Some p ↦ (prefix_number op == prefix_number p.0) && same e qs p.1 rs ]
same (tree.binary op l r at) qs u rs =
    elim (as_binary u) [
      | None ↦ false
      | Some p ↦
          ((op_number op == op_number p.0) && same l qs p.1 rs) && same r qs p.2 rs
    ]
same other qs u rs = false

-- ---- comparisons that no whole number meets both

-- a number meets none of `= n`, `!= n`, .. that it is asked to
abbrev pub fails : BinOp → ℤ → ℤ → Bool
fails Eq z n = not (int_eq z n)
fails Ne z n = int_eq z n
fails Lt z n = int_le n z
fails Le z n = int_lt n z
fails Gt z n = int_le z n
fails Ge z n = int_lt z n
fails op z n = true

-- no number below n meets the other
abbrev pub never_below : ℤ → BinOp → ℤ → Bool
never_below n Eq m = int_le n m
never_below n Gt m = int_le n (m +ℤ pos 1)
never_below n Ge m = int_le n m
never_below n op m = false

-- no number up to n meets the other
abbrev pub never_up_to : ℤ → BinOp → ℤ → Bool
never_up_to n Eq m = int_lt n m
never_up_to n Gt m = int_le n m
never_up_to n Ge m = int_lt n m
never_up_to n op m = false

-- no number above n meets the other
abbrev pub never_above : ℤ → BinOp → ℤ → Bool
never_above n Eq m = int_le m n
never_above n Lt m = int_le m (n +ℤ pos 1)
never_above n Le m = int_le m n
never_above n op m = false

-- no number from n on meets the other
abbrev pub never_from : ℤ → BinOp → ℤ → Bool
never_from n Eq m = int_lt m n
never_from n Lt m = int_le m n
never_from n Le m = int_lt m n
never_from n op m = false

-- no number other than n meets the other
abbrev pub never_besides : ℤ → BinOp → ℤ → Bool
never_besides n Eq m = int_eq n m
never_besides n op m = false

-- no whole number meets both comparisons
abbrev pub never_both : BinOp → ℤ → BinOp → ℤ → Bool
never_both Eq n other m = fails other n m
never_both Ne n other m = never_besides n other m
never_both Lt n other m = never_below n other m
never_both Le n other m = never_up_to n other m
never_both Gt n other m = never_above n other m
never_both Ge n other m = never_from n other m
never_both op n other m = false

-- ---- conjuncts that exclude each other

-- the operator between conjuncts
abbrev pub is_and : BinOp → Bool
is_and And = true
is_and op = false

-- a conjunct `left op number`
pub record Comparison : Type 0 where
  pub left : Tree
  pub op : BinOp
  pub number : ℤ

abbrev pub compared_by : BinOp → Tree → Option ℤ → Option Comparison
compared_by op e None = None
compared_by op e (Some n) = if is_comparison op then Some (record { left = e; op = op; number = n })
    else None

abbrev pub compared : Tree → Option Comparison
compared (tree.binary op e right at) = compared_by op e (literal right)
compared other = None

-- they compare the same with numbers, and no whole number meets both
abbrev pub compare_apart : Option Comparison → List Pattern → Option Comparison → List Pattern
    → Bool
compare_apart (Some x) qs (Some y) rs =
    never_both x.op x.number y.op y.number && same x.left qs y.left rs
compare_apart None qs other rs = false
compare_apart (Some x) qs None rs = false

abbrev pub denied_by : PrefixOp → Tree → Option Tree
denied_by Not e = Some e
denied_by Neg e = None
denied_by BitNot e = None

-- what stands behind a `not`
abbrev pub denied : Tree → Option Tree
denied (tree.prefix op e at) = denied_by op e
denied other = None

-- the second is `not` the first
abbrev pub is_not_of : Tree → List Pattern → Option Tree → List Pattern → Bool
is_not_of c qs None rs = false
is_not_of c qs (Some inner) rs = same c qs inner rs

abbrev pub exclude : Tree → List Pattern → Tree → List Pattern → Bool
exclude c qs d rs = (compare_apart (compared c) qs (compared d) rs || is_not_of c qs (denied d) rs)
    || is_not_of d rs (denied c) qs

abbrev pub any_of : {A : Type 0} → (A → Bool) → List A → Bool
any_of f [] = false
any_of f (x ∷ xs) = f x || any_of f xs

-- one of these conjuncts excludes it
abbrev pub is_excluded : Tree → List Pattern → List Tree → List Pattern → Bool
is_excluded c qs others rs = any_of (λ d. exclude c qs d rs) others

-- .. of an action's guards
abbrev pub guards_exclude_one : Tree → List Pattern → Action → Bool
guards_exclude_one c qs act = is_excluded c qs (all_conjuncts act.guards) act.patterns

-- one of these conjuncts of an action and one of the other's guards exclude each other
abbrev pub guards_exclude_any : List Tree → Action → Action → Bool
guards_exclude_any cs one two = any_of (λ c. guards_exclude_one c one.patterns two) cs

-- a conjunct of the one's guards and one of the other's exclude each other
abbrev pub guards_exclude : Action → Action → Bool
guards_exclude one two = guards_exclude_any (all_conjuncts one.guards) one two

-- ---- tokens

-- on each port that these patterns name, action a needs no more tokens than b
abbrev pub needs_no_more : Actor → ℕ → ℕ → List Pattern → Bool
needs_no_more actor a b [] = true
needs_no_more actor a b (q ∷ qs) =
    nat_le (need actor a q.port) (need actor b q.port) && needs_no_more actor a b qs
