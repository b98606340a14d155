-- Trees in which each network but the top, and each actor, is one part, and stands in a network before it.
-- Trusted: part of what a promise means.
use Rattle.std.specs.Prelude.{◌≡◌, ℕ, zero, suc, ◌+◌, ◌<◌, ◌==◌, List, [], ◌∷◌, length, Some, if◌then◌else◌}
use Rattle.fnl_tree.specs.Tree.{Inner, InnerNet, InnerLeaf, Part, Net as BoundNet, Tree as BoundTree}
use Rattle.fnl_tree.specs.Sound.{IsSound}
use Rattle.fnl_bind.specs.Library.{Entry, network_of}
use Rattle.fnl_bind.specs.Trees.{bound, violations}

-- ---- counts

-- 1 if the numbers are one, or else 0
abbrev pub if_same : ℕ → ℕ → ℕ
if_same k m = if k == m then 1 else 0

-- 1 if m is one of so many numbers from k on, or else 0
abbrev pub once_from : ℕ → ℕ → ℕ → ℕ
once_from k zero m = 0
once_from k (suc n) m = if_same k m + once_from (suc k) n m

abbrev pub if_net : ℕ → Inner → ℕ
if_net m (InnerNet n) = if_same n m
if_net m (InnerLeaf l) = 0

abbrev pub if_leaf : ℕ → Inner → ℕ
if_leaf m (InnerNet n) = 0
if_leaf m (InnerLeaf l) = if_same l m

-- how many of the parts are the network of a number
abbrev pub net_parts : ℕ → List Part → ℕ
net_parts m [] = 0
net_parts m (p ∷ ps) = if_net m p.inner + net_parts m ps

-- how many are the actor of a number
abbrev pub leaf_parts : ℕ → List Part → ℕ
leaf_parts m [] = 0
leaf_parts m (p ∷ ps) = if_leaf m p.inner + leaf_parts m ps

-- the same of all parts of several networks
abbrev pub net_count : ℕ → List BoundNet → ℕ
net_count m [] = 0
net_count m (n ∷ ns) = net_parts m n.parts + net_count m ns

abbrev pub leaf_count : ℕ → List BoundNet → ℕ
leaf_count m [] = 0
leaf_count m (n ∷ ns) = leaf_parts m n.parts + leaf_count m ns

-- ---- order

-- a network has a number above k
abbrev pub IsBehind : ℕ → Inner → Type 0
IsBehind k (InnerNet m) = k < m
IsBehind k (InnerLeaf l) = Unit {0}

abbrev pub AreBehind : ℕ → List Part → Type 0
AreBehind k [] = Unit {0}
AreBehind k (p ∷ ps) = IsBehind k p.inner × AreBehind k ps

-- the parts of each network, the first of which has the number k, have greater numbers
abbrev pub LeadDown : ℕ → List BoundNet → Type 0
LeadDown k [] = Unit {0}
LeadDown k (n ∷ ns) = AreBehind k n.parts × LeadDown (suc k) ns

-- ---- trees

pub record StandsOnce (tree : BoundTree) : Type 0 where
  -- the top is no part; each other network is one, and no part is a network that there isn't
  pub nets : (m : ℕ) → if_same 0 m + net_count m tree.nets ≡ once_from 0 (length tree.nets) m
  -- each actor is one part, and no part is an actor that there isn't
  pub leaves : (l : ℕ) → leaf_count l tree.nets ≡ once_from 0 (length tree.leaves) l
  pub down : LeadDown 0 tree.nets

-- in the tree that networks make each network but the top, and each actor, stands once
abbrev pub BoundStandOnce : Type 0
BoundStandOnce = (library : List Entry) (class : List ℕ) (top : Entry)
    → network_of class library ≡ Some top → StandsOnce (bound library class)

-- if they break no rule, the tree can be flattened
abbrev pub BoundAreSound : Type 0
BoundAreSound = (library : List Entry) (class : List ℕ) (top : Entry)
    → network_of class library ≡ Some top → violations library class ≡ []
    → IsSound (bound library class)
