-- How links join ports, and how much they can hold: what a network must meet to be run.
-- Trusted: part of what a promise means.
use Rattle.std.specs.Prelude.{◌≡◌, ℕ, ◌≤◌, ◌<◌, ◌⊎◌, true, false, length, slice_get, Option, None, Some}
use Rattle.net_model.specs.declared.wiring.End.{End}
use Rattle.net_model.specs.declared.wiring.End.TheVariants.{Leaf as AtLeaf, Net as AtNet}
use Rattle.net_model.specs.declared.wiring.Link.{Link}
use Rattle.net_model.specs.Network.{Leaf, Network, kind_at, is_input, is_output}
use Rattle.net_model.specs.Limits.{max_instances, max_links, max_rate}

-- port p is one of the input ports of the leaf, or one of its output ports
abbrev pub HasInput : {X : Type 0} → ℕ → Option (Leaf X) → Type 0
HasInput p None = ⊥
HasInput p (Some leaf) = p < leaf.behaviour.ins

abbrev pub HasOutput : {X : Type 0} → ℕ → Option (Leaf X) → Type 0
HasOutput p None = ⊥
HasOutput p (Some leaf) = p < leaf.behaviour.outs

-- a writing end is there: an output of a leaf, or an input of the network
abbrev pub ComesFromPort : {X : Type 0} → Network X → End → Type 0
ComesFromPort net (AtLeaf inst port) = HasOutput port (slice_get net.leaves inst.0)
ComesFromPort net (AtNet port) = port < length net.ins

-- a reading end is there: an input of a leaf, or an output of the network
abbrev pub LeadsToPort : {X : Type 0} → Network X → End → Type 0
LeadsToPort net (AtLeaf inst port) = HasInput port (slice_get net.leaves inst.0)
LeadsToPort net (AtNet port) = port < length net.outs

-- Links are numbered by target: the inputs of leaf 0, those of leaf 1 and so on, and then the network's outputs.
abbrev pub IsBefore : End → End → Type 0
IsBefore (AtLeaf inst port) (AtLeaf other next) = (inst.0 < other.0)
    ⊎ ((inst.0 ≡ other.0) × (port < next))
IsBefore (AtLeaf inst port) (AtNet next) = Unit {0}
IsBefore (AtNet port) (AtLeaf other next) = ⊥
IsBefore (AtNet port) (AtNet next) = port < next

-- the type of a link to an output is the output's
abbrev pub HasKindOf : {X : Type 0} → Network X → Link → End → Type 0
HasKindOf net link (AtLeaf inst port) = Unit {0}
HasKindOf net link (AtNet port) = link.kind ≡ kind_at net.outs port

-- what any action of a leaf needs at an end, and what any gives there
abbrev pub CoversNeeds : {X : Type 0} → ℕ → ℕ → Option (Leaf X) → Type 0
CoversNeeds capacity p None = Unit {0}
CoversNeeds capacity p (Some leaf) = (a : ℕ) → leaf.behaviour.need a p ≤ capacity

abbrev pub CoversGives : {X : Type 0} → ℕ → ℕ → Option (Leaf X) → Type 0
CoversGives capacity p None = Unit {0}
CoversGives capacity p (Some leaf) = (a : ℕ) → leaf.behaviour.give a p ≤ capacity

abbrev pub HoldsNeeds : {X : Type 0} → Network X → ℕ → End → Type 0
HoldsNeeds net capacity (AtLeaf inst port) = CoversNeeds capacity port (slice_get net.leaves inst.0)
HoldsNeeds net capacity (AtNet port) = Unit {0}

abbrev pub HoldsGives : {X : Type 0} → Network X → ℕ → End → Type 0
HoldsGives net capacity (AtLeaf inst port) = CoversGives capacity port (slice_get net.leaves inst.0)
HoldsGives net capacity (AtNet port) = Unit {0}

-- what is asked of each link
pub record IsJoined {X : Type 0} (net : Network X) (link : Link) : Type 0 where
  pub from_port : ComesFromPort net link.from
  pub to_port : LeadsToPort net link.to
  -- its ends aren't both the network's
  pub inside : is_input link ≡ true → is_output link ≡ false
  pub output_kind : HasKindOf net link link.to
  -- it can hold what any action takes or gives at its ends
  pub holds_needs : HoldsNeeds net link.capacity link.to
  pub holds_gives : HoldsGives net link.capacity link.from

pub record IsWired {X : Type 0} (net : Network X) : Type 0 where
  pub joined : (l : ℕ) (link : Link) → slice_get net.links l ≡ Some link → IsJoined net link
  -- in link order, so no two lead to one place
  pub in_order : (l m : ℕ) (link other : Link) → l < m → slice_get net.links l ≡ Some link
      → slice_get net.links m ≡ Some other → IsBefore link.to other.to
  pub few_leaves : length net.leaves ≤ max_instances
  pub few_links : length net.links ≤ max_links
  pub few_taken : (i : ℕ) (leaf : Leaf X) → slice_get net.leaves i ≡ Some leaf
      → (a p : ℕ) → leaf.behaviour.need a p ≤ max_rate
  pub few_given : (i : ℕ) (leaf : Leaf X) → slice_get net.leaves i ≡ Some leaf
      → (a p : ℕ) → leaf.behaviour.give a p ≤ max_rate
