-- The first leaves of actors, by their classes.
-- Not trusted: no promise is read with it.
use Rattle.std.specs.Prelude.{◌≡◌, ℕ, suc, ◌<◌, ◌≤◌, List, [], ◌∷◌, map, length, Option, None, Some, slice_get, String, string_bytes, if◌then◌else◌}
use Rattle.std.specs.Str.{bytes_eq}
use Rattle.std.specs.declared.alloc.Global.{Global as Heap}
use Rattle.fnl_tree.specs.Tree.{Leaf}
use Rattle.fnl_tree.specs.View.{leaf_of}
use Rattle.check_leaves.specs.Alike.{AreAlike}
use Rattle.check_leaves.specs.declared.first.First.{First}

-- ---- numbers by classes

abbrev pub Numbered : Type 0
Numbered = List ℕ × ℕ

abbrev pub numbered_of : String Heap × ℕ → Numbered
numbered_of e = (string_bytes e.0, e.1)

-- the number of a class
abbrev pub number_of : (class : List ℕ) → List Numbered → Option ℕ
number_of class [] = None
number_of class (e ∷ es) = if bytes_eq class e.0 then Some e.1 else number_of class es

-- this class has the number now
abbrev pub with_number : (class : List ℕ) → ℕ → List Numbered → List Numbered
with_number class n [] = (class, n) ∷ []
with_number class n (e ∷ es) =
    if bytes_eq class e.0 then (e.0, n) ∷ es else e ∷ with_number class n es

-- ---- the first leaf of each actor, and the one before it that has its class

pub record Linked : Type 0 where
  pub leaf : Leaf
  pub earlier : Option ℕ

abbrev pub linked_of : First → Linked
linked_of f = record { leaf = leaf_of f.leaf.now; earlier = f.earlier }

abbrev pub all_linked : List First → List Linked
all_linked firsts = map linked_of firsts

abbrev pub leaves_of : List Linked → List Leaf
leaves_of links = map (λ f. f.leaf) links

-- none from a number on, and before another, has this class
abbrev pub NoneBetween : List Leaf → (class : List ℕ) → (from below : ℕ) → Type 0
NoneBetween leaves class from below = (p : ℕ) (leaf : Leaf) → from ≤ p → p < below
    → slice_get leaves p ≡ Some leaf → leaf.class ≡ class → ⊥

-- the last one of a class before a number
abbrev pub IsLast : List Leaf → (class : List ℕ) → (below : ℕ) → Option ℕ → Type 0
IsLast leaves class below None = NoneBetween leaves class 0 below
IsLast leaves class below (Some q) = (q < below) × (leaf : Leaf) × (slice_get leaves q ≡ Some leaf)
    × (leaf.class ≡ class) × NoneBetween leaves class (suc q) below

-- the last of each class is under its number, and each leads to the one before it
pub record IsIndex (newest : List Numbered) (links : List Linked) : Type 0 where
  pub last : (class : List ℕ)
      → IsLast (leaves_of links) class (length links) (number_of class newest)
  pub before : (k : ℕ) (f : Linked) → slice_get links k ≡ Some f
      → IsLast (leaves_of links) f.leaf.class k f.earlier

-- what is found is alike, and if nothing is, none is
abbrev pub IsFound : Option ℕ → List Leaf → Leaf → Type 0
IsFound None leaves leaf = (p : ℕ) (that : Leaf) → slice_get leaves p ≡ Some that
    → AreAlike leaf that → ⊥
IsFound (Some p) leaves leaf = (that : Leaf) × (slice_get leaves p ≡ Some that) × AreAlike leaf that
