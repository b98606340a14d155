-- Constant expressions of starts and types, which see what is declared before them.
--
-- A name that is declared later is known and isn't constant yet: an expression that must be constant and uses it isn't
-- constant, and is named whole.
-- Trusted: part of what a promise means.
use Rattle.std.specs.Prelude.{ℕ, Bool, true, false, ◌||◌, ◌==◌, List, [], ◌∷◌, ◌++◌, Option, None, Some, pos, if◌then◌else◌}
use Rattle.rvc_base.specs.Rules.{unknown_name, constant_traps, not_constant}
use Rattle.cal_ast.specs.Places.{begins}
use Rattle.cal_ast.specs.Tree as tree
use Rattle.cal_ast.specs.Tree.{Tree}
use Rattle.cal_model.specs.Value.{Kind, NumKind, BoolKind, ListKind, Shape, Value, Num, Truth, Items, Values, Nil, Cons, kind_of_type, stored, count}
use Rattle.cal_model.specs.Outcome.{Out, Gives, Traps, Lacks, Clashes}
use Rattle.cal_model.specs.Kinding.{Judged, Fine, Broken, and_so, Names, kind, constant, one_kind, type_judged}

-- ---- names that are declared later

abbrev mutual
  -- a name is used at an offset
  pub uses_at : ℕ → Tree → Bool
  uses_at p (tree.variable name at) = at == p
  uses_at p (tree.call name args at) = (at == p) || uses_at p args
  uses_at p (tree.cons t ts) = uses_at p t || uses_at p ts
  uses_at p (tree.present t) = uses_at p t
  uses_at p (tree.paren e at) = uses_at p e
  uses_at p (tree.if_expr test first other at) =
      uses_at p test || (uses_at p first || uses_at p other)
  uses_at p (tree.list items at) = uses_at p items
  uses_at p (tree.comp item gens at) = uses_at p item || uses_at p gens
  uses_at p (tree.gen shape name from to at) =
      uses_at p shape || (uses_at p from || uses_at p to)
  uses_at p (tree.index base place at) = uses_at p base || uses_at p place
  uses_at p (tree.prefix op e at) = uses_at p e
  uses_at p (tree.binary op l r at) = uses_at p l || uses_at p r
  uses_at p (tree.type_of name args at) = uses_at p args
  uses_at p (tree.shape_arg name shape) = uses_at p shape
  uses_at p (tree.value_arg name value) = uses_at p value
  uses_at p other = false

-- the expressions inside one, or inside a type, that must be constant: sizes and bounds, the outer ones first
abbrev pub constants_in : Tree → List Tree
constants_in (tree.call name args at) = constants_in args
constants_in (tree.cons t ts) = constants_in t ++ constants_in ts
constants_in (tree.present t) = constants_in t
constants_in (tree.paren e at) = constants_in e
constants_in (tree.if_expr test first other at) =
    constants_in test ++ (constants_in first ++ constants_in other)
constants_in (tree.list items at) = constants_in items
constants_in (tree.comp item gens at) = constants_in item ++ constants_in gens
constants_in (tree.gen shape name from to at) =
    constants_in shape ++ (from ∷ constants_in from ++ (to ∷ constants_in to))
constants_in (tree.index base place at) = constants_in base ++ constants_in place
constants_in (tree.prefix op e at) = constants_in e
constants_in (tree.binary op l r at) = constants_in l ++ constants_in r
constants_in (tree.type_of name args at) = constants_in args
constants_in (tree.shape_arg name shape) = constants_in shape
constants_in (tree.value_arg name value) = value ∷ constants_in value
constants_in other = []

-- the last of these that uses a name at p begins here, or else there
abbrev pub last_using : ℕ → List Tree → ℕ → ℕ
last_using p [] at = at
last_using p (e ∷ es) at = last_using p es (if uses_at p e then begins e else at)

-- where the innermost constant expression begins that uses a name at p, if the whole must be constant
abbrev pub constant_place : ℕ → Tree → ℕ
constant_place p e = last_using p (constants_in e) (begins e)

-- a name that isn't known yet makes the expression that must be constant not constant
abbrev pub not_yet : {A : Type 0} → Judged A → Tree → Judged A
not_yet (Fine a) e = Fine a
not_yet (Broken rule at) e =
    if rule.0 == unknown_name.0 then Broken not_constant (constant_place at e) else Broken rule at

-- the type of what is declared, over what is declared before it
abbrev pub early_type : Tree → Names → Judged Shape
early_type shape names = not_yet (type_judged shape names) shape

-- ---- kinds of what is stored

-- an expression whose value is to be stored as one of this kind
abbrev pub stored_kind : Kind → Tree → Names → Judged Kind
stored_kind k e names = and_so (kind e names) (λ found. one_kind k found (begins e))

-- the same over what is declared before it
abbrev pub early_kind : Kind → Tree → Names → Judged Kind
early_kind k e names = not_yet (stored_kind k e names) e

-- ---- values

-- A variable whose start breaks a rule has no value that is of use: one of another kind stands for it. Whatever
-- evaluation makes of it is of another kind, or clashes, and then breaks no rule of its own.
abbrev pub useless : Kind → Value
useless (ListKind n k) = Num (pos 0)
useless other = Items Nil

abbrev mutual
  pub has_kind : Kind → Value → Bool
  has_kind NumKind (Num z) = true
  has_kind BoolKind (Truth b) = true
  has_kind (ListKind n k) (Items vs) = if count vs == n then have_kind k vs else false
  has_kind k v = false

  pub have_kind : Kind → Values → Bool
  have_kind k Nil = true
  have_kind k (Cons v vs) = if has_kind k v then have_kind k vs else false

-- the same but for the lengths of lists
abbrev mutual
  pub is_like_value : Kind → Value → Bool
  is_like_value NumKind (Num z) = true
  is_like_value BoolKind (Truth b) = true
  is_like_value (ListKind n k) (Items vs) = are_like_values k vs
  is_like_value k v = false

  pub are_like_values : Kind → Values → Bool
  are_like_values k Nil = true
  are_like_values k (Cons v vs) = if is_like_value k v then are_like_values k vs else false

-- the value that a start has, stored in its type; none if it needs a value that broke a rule
abbrev pub value_given : Out Value → Shape → ℕ → Judged (Option Value)
value_given (Gives v left) t at =
    Fine (if has_kind (kind_of_type t) v then Some (stored t v) else None)
value_given (Traps c) t at = Broken constant_traps at
value_given Lacks t at = Broken not_constant at
value_given Clashes t at = Fine None

abbrev pub start_value : Shape → Tree → Names → Judged (Option Value)
start_value t e names = value_given (constant e names) t (begins e)
