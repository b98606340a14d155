-- Trees in which each network and each actor stands once, and whose names are told apart: such trees binding gives.
-- Trusted: part of what a promise means.
use Rattle.std.specs.Prelude.{◌≡◌, ◌≢◌, ℕ, zero, suc, ◌+◌, ◌<◌, ◌≤◌, List, [], ◌∷◌, ◌++◌, length, map, All, AllPairs, Some, slice_get}
use Rattle.cal_model.specs.Sound.{max_ports}
use Rattle.net_model.specs.Limits.{max_instances}
use Rattle.fnl_tree.specs.Tree.{Inner, InnerNet, InnerLeaf, Part, Net, Tree}

-- a part stands in network n, at this place
pub record IsPart (tree : Tree) (n place : ℕ) (part : Part) : Type 0 where
  pub net : Net
  pub is_net : slice_get tree.nets n ≡ Some net
  pub is_part : slice_get net.parts place ≡ Some part

-- the network or the actor that stands in network n is there, and a network is behind the one in which it stands
abbrev pub IsBehind : Tree → ℕ → Inner → Type 0
IsBehind tree n (InnerNet m) = (n < m) × (m < length tree.nets)
IsBehind tree n (InnerLeaf l) = l < length tree.leaves

-- it stands in a network
pub record StandsSomewhere (tree : Tree) (inner : Inner) : Type 0 where
  pub number : ℕ
  pub place : ℕ
  pub part : Part
  pub is_part : IsPart tree number place part
  pub is_inner : part.inner ≡ inner

-- the leaves of some parts, depth first in the order of the parts
pub data LeavesOf (tree : Tree) : List Part → List ℕ → Type 0 where
  none : LeavesOf tree [] []
  leaf : {part : Part} {parts : List Part} {l : ℕ} {ls : List ℕ} → part.inner ≡ InnerLeaf l
      → LeavesOf tree parts ls → LeavesOf tree (part ∷ parts) (l ∷ ls)
  net : {part : Part} {parts : List Part} {n : ℕ} {inside : Net} {ks ls : List ℕ}
      → part.inner ≡ InnerNet n → slice_get tree.nets n ≡ Some inside
      → LeavesOf tree inside.parts ks → LeavesOf tree parts ls
      → LeavesOf tree (part ∷ parts) (ks ++ ls)

-- so many numbers in a row, from k
abbrev pub numbers_from : ℕ → ℕ → List ℕ
numbers_from k zero = []
numbers_from k (suc n) = k ∷ numbers_from (suc k) n

abbrev pub AreDistinct : List (List ℕ) → Type 0
AreDistinct names = AllPairs (λ a b. a ≢ b) names

-- the largest `bufferSize`
abbrev pub max_buffer_size : ℕ
max_buffer_size = 1048576

-- names of ports in one direction and of instances are told apart, and ports and sizes are within their limits
pub record IsNetSound (net : Net) : Type 0 where
  pub ins : AreDistinct (map (λ p. p.name) net.ins)
  pub outs : AreDistinct (map (λ p. p.name) net.outs)
  pub parts : AreDistinct (map (λ p. p.id) net.parts)
  pub few_ins : length net.ins ≤ max_ports
  pub few_outs : length net.outs ≤ max_ports
  pub sizes : All (λ w. w.size ≤ max_buffer_size) net.wires

pub record IsSound (tree : Tree) : Type 0 where
  -- the top network, and the leaves in instance order
  pub top : Net
  pub is_top : slice_get tree.nets 0 ≡ Some top
  pub in_order : LeavesOf tree top.parts (numbers_from 0 (length tree.leaves))
  -- what stands in a network is there, and stands once
  pub behind : (n place : ℕ) (part : Part) → IsPart tree n place part → IsBehind tree n part.inner
  pub once : (n m j k : ℕ) (part that : Part) → IsPart tree n j part → IsPart tree m k that
      → part.inner ≡ that.inner → (n ≡ m) × (j ≡ k)
  -- each network but the top and each actor stands in one
  pub nets_stand : (n : ℕ) → 0 < n → n < length tree.nets → StandsSomewhere tree (InnerNet n)
  pub leaves_stand : (l : ℕ) → l < length tree.leaves → StandsSomewhere tree (InnerLeaf l)
  pub nets : All IsNetSound tree.nets
  -- the top is no instance
  pub few : length tree.nets + length tree.leaves ≤ suc max_instances
