-- Parts gone through depth first.
-- Not trusted: no promise is read with it.
use Rattle.std.specs.Prelude.{◌≡◌, ℕ, suc, ◌+◌, List, [], ◌∷◌, ◌++◌, length}
use Rattle.fnl_tree.specs.Tree.{InnerNet, InnerLeaf, Part, Net, Leaf, Tree}

-- The parts are these networks and leaves, depth first, of which the first have these numbers.
pub data Walks : List Part → (net leaf : ℕ) → List Net → List Leaf → Type 0 where
  none : {net leaf : ℕ} → Walks [] net leaf [] []
  leaf : {part : Part} {parts : List Part} {net leaf : ℕ} {ns : List Net} {l : Leaf} {ls : List Leaf}
      → part.inner ≡ InnerLeaf leaf → Walks parts net (suc leaf) ns ls
      → Walks (part ∷ parts) net leaf ns (l ∷ ls)
  net : {part : Part} {parts : List Part} {net leaf : ℕ} {x : Net} {ns ms : List Net} {ls ks : List Leaf}
      → part.inner ≡ InnerNet net → Walks x.parts (suc net) leaf ns ls
      → Walks parts (net + suc (length ns)) (leaf + length ls) ms ks
      → Walks (part ∷ parts) net leaf (x ∷ (ns ++ ms)) (ls ++ ks)

-- .. in front of others
pub record Goes (parts : List Part) (net leaf : ℕ) (nets : List Net) (leaves : List Leaf)
    (rest_nets : List Net) (rest_leaves : List Leaf) : Type 0 where
  pub ns : List Net
  pub ls : List Leaf
  pub nets_are : nets ≡ ns ++ rest_nets
  pub leaves_are : leaves ≡ ls ++ rest_leaves
  pub walks : Walks parts net leaf ns ls

-- a tree is its top and what its parts are, depth first
pub record IsNumbered (tree : Tree) : Type 0 where
  pub top : Net
  pub ns : List Net
  pub nets_are : tree.nets ≡ top ∷ ns
  pub walks : Walks top.parts 1 0 ns tree.leaves
