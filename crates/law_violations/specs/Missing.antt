-- Sizes and bounds that give no number, where an expression has no kind for that, or a type isn't one.
-- Trusted: part of what a promise means.
use Rattle.std.specs.Prelude.{◌≡◌, ◌⊎◌, ℕ, ℤ}
use Rattle.rvc_base.specs.Rules.{constant_traps, not_constant}
use Rattle.rvc_base.specs.declared.trap.Trap.{Trap}
use Rattle.cal_ast.specs.Places.{begins}
use Rattle.cal_ast.specs.Tree as tree
use Rattle.cal_ast.specs.Tree.{Tree}
use Rattle.cal_model.specs.Kinding.{Broken, Fine, Names, constant, counter, kind, type_judged, with_counters, with_known}
use Rattle.cal_model.specs.Outcome.{Gives, Traps}
use Rattle.cal_model.specs.Value.{Num, NumKind}

-- of some size or some bound in a part, over the names that it sees
abbrev mutual
  pub OfSome : (Tree → Names → Type 0) → Tree → Names → Type 0
  OfSome P (tree.cons t ts) names = OfSome P t names ⊎ OfSome P ts names
  OfSome P (tree.call name args at) names = OfSome P args names
  OfSome P (tree.paren e at) names = OfSome P e names
  OfSome P (tree.if_expr test first other at) names =
      OfSome P test names ⊎ (OfSome P first names ⊎ OfSome P other names)
  OfSome P (tree.list items at) names = OfSome P items names
  OfSome P (tree.comp item gens at) names =
      OfSome P item (with_counters gens names) ⊎ OfSomeGen P gens names
  OfSome P (tree.index base place at) names = OfSome P base names ⊎ OfSome P place names
  OfSome P (tree.prefix op e at) names = OfSome P e names
  OfSome P (tree.binary op l r at) names = OfSome P l names ⊎ OfSome P r names
  OfSome P (tree.type_of name args at) names = OfSome P args names
  OfSome P (tree.shape_arg name shape) names = OfSome P shape names
  OfSome P (tree.value_arg name value) names = P value names ⊎ OfSome P value names
  OfSome P other names = ⊥

  pub OfSomeGen : (Tree → Names → Type 0) → Tree → Names → Type 0
  OfSomeGen P (tree.cons (tree.gen shape (tree.ident name place) from to at) gens) names =
      OfSome P shape names ⊎ ((P from names ⊎ OfSome P from names)
      ⊎ ((P to names ⊎ OfSome P to names) ⊎ OfSomeGen P gens (with_known (counter name) names)))
  OfSomeGen P other names = ⊥

-- an expression of numbers begins at this place, and its evaluation over the names that it sees traps
pub record TrapsAt (at : ℕ) (e : Tree) (names : Names) : Type 0 where
  pub here : begins e ≡ at
  pub is_number : kind e names ≡ Fine NumKind
  pub cause : Trap
  pub traps : constant e names ≡ Traps cause

-- .. or gives no number, and doesn't trap: it reaches a variable that has no value, or a part of another kind
pub record LacksAt (at : ℕ) (e : Tree) (names : Names) : Type 0 where
  pub here : begins e ≡ at
  pub is_number : kind e names ≡ Fine NumKind
  pub none : (number : ℤ) (left : ℕ) → constant e names ≡ Gives (Num number) left → ⊥
  pub no_trap : (cause : Trap) → constant e names ≡ Traps cause → ⊥

-- If an expression has no kind since what must be constant traps, a size or a bound in it at this place does; if since
-- something isn't constant, one at this place gives no number.
pub record ExpressionsTell : Type 0 where
  pub traps : (e : Tree) (names : Names) (at : ℕ) → kind e names ≡ Broken constant_traps at
      → OfSome (TrapsAt at) e names
  pub lacks : (e : Tree) (names : Names) (at : ℕ) → kind e names ≡ Broken not_constant at
      → OfSome (LacksAt at) e names

-- .. and so of types
pub record TypesTell : Type 0 where
  pub traps : (shape : Tree) (names : Names) (at : ℕ)
      → type_judged shape names ≡ Broken constant_traps at → OfSome (TrapsAt at) shape names
  pub lacks : (shape : Tree) (names : Names) (at : ℕ)
      → type_judged shape names ≡ Broken not_constant at → OfSome (LacksAt at) shape names
