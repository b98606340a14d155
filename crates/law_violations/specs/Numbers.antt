-- Sizes and bounds that give numbers: what must be constant inside an expression or a type, and is.
-- Trusted: part of what a promise means.
use Rattle.std.specs.Prelude.{◌≡◌, ℕ, ℤ}
use Rattle.cal_ast.specs.Tree as tree
use Rattle.cal_ast.specs.Tree.{Tree}
use Rattle.cal_model.specs.Kinding.{Fine, Names, constant, counter, kind, type_judged, with_counters, with_known}
use Rattle.cal_model.specs.Outcome.{Gives}
use Rattle.cal_model.specs.Value.{Kind, Num, Shape}

-- an expression gives a number over these names: it reaches no variable without a value, doesn't trap, and no part of it
-- is of another kind
pub record GivesNumber (e : Tree) (names : Names) : Type 0 where
  pub number : ℤ
  pub left : ℕ
  pub gives : constant e names ≡ Gives (Num number) left

abbrev mutual
  -- each size and each bound in a part gives a number, over the names that it sees
  pub HasNumbers : Tree → Names → Type 0
  HasNumbers (tree.cons t ts) names = HasNumbers t names × HasNumbers ts names
  HasNumbers (tree.call name args at) names = HasNumbers args names
  HasNumbers (tree.paren e at) names = HasNumbers e names
  HasNumbers (tree.if_expr test first other at) names =
      HasNumbers test names × HasNumbers first names × HasNumbers other names
  HasNumbers (tree.list items at) names = HasNumbers items names
  HasNumbers (tree.comp item gens at) names =
      HasNumbers item (with_counters gens names) × GensHaveNumbers gens names
  HasNumbers (tree.index base place at) names = HasNumbers base names × HasNumbers place names
  HasNumbers (tree.prefix op e at) names = HasNumbers e names
  HasNumbers (tree.binary op l r at) names = HasNumbers l names × HasNumbers r names
  HasNumbers (tree.type_of name args at) names = HasNumbers args names
  HasNumbers (tree.shape_arg name shape) names = HasNumbers shape names
  HasNumbers (tree.value_arg name value) names = GivesNumber value names × HasNumbers value names
  HasNumbers other names = Unit {0}

  -- .. of generators, each of which sees those before it
  pub GensHaveNumbers : Tree → Names → Type 0
  GensHaveNumbers (tree.cons (tree.gen shape (tree.ident name place) from to at) gens) names =
      HasNumbers shape names × GivesNumber from names × HasNumbers from names
      × GivesNumber to names × HasNumbers to names
      × GensHaveNumbers gens (with_known (counter name) names)
  GensHaveNumbers other names = Unit {0}

-- in an expression that has a kind each size and each bound gives a number
abbrev pub ExpressionsHaveNumbers : Type 0
ExpressionsHaveNumbers = (e : Tree) (names : Names) (k : Kind) → kind e names ≡ Fine k
    → HasNumbers e names

-- .. and so it does in a type
abbrev pub TypesHaveNumbers : Type 0
TypesHaveNumbers = (shape : Tree) (names : Names) (t : Shape) → type_judged shape names ≡ Fine t
    → HasNumbers shape names
