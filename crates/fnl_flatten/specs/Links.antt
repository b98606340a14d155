-- Links: pairs of ends that a chain of connections joins (ISO/IEC 23001-4, FNL: connections).
-- Trusted: part of what a promise means.
use Rattle.std.specs.Prelude.{◌≡◌, ℕ, zero, suc, ◌+◌, ◌≤◌, ◌<◌, ◌==◌, max, true, false, List, [], ◌∷◌, length, Contains, Option, None, Some, slice_get, if◌then◌else◌}
use Rattle.net_model.specs.declared.wiring.End.{End}
use Rattle.net_model.specs.declared.wiring.End.TheVariants.{Leaf as AtLeaf, Net as AtNet}
use Rattle.net_model.specs.declared.wiring.Link.{Link}
use Rattle.net_model.specs.Limits.{max_links}
use Rattle.net_model.specs.Wired.{IsBefore}
use Rattle.fnl_tree.specs.Tree.{Wire, Net, Tree}
use Rattle.fnl_flatten.specs.Head.{Head}
use Rattle.fnl_flatten.specs.Joints.{Joint, LeafPort, OwnPort, source, target, kind_of, rate_at}

-- a connection of some network leads from one joint to another, and asks for this size
pub record Leads (tree : Tree) (heads : List Head) (j k : Joint) (size : ℕ) : Type 0 where
  pub number : ℕ
  pub net : Net
  pub place : ℕ
  pub wire : Wire
  pub is_net : slice_get tree.nets number ≡ Some net
  pub is_wire : slice_get net.wires place ≡ Some wire
  pub begins : source tree heads number net wire ≡ Some j
  pub ends : target tree heads number net wire ≡ Some k
  pub asks : wire.size ≡ size

-- a chain of connections from one joint to another, and the largest size that one of them asks for
pub data Chain (tree : Tree) (heads : List Head) : Joint → Joint → ℕ → Type 0 where
  last : {j k : Joint} {size : ℕ} → Leads tree heads j k size → Chain tree heads j k size
  more : {j k l : Joint} {size rest : ℕ} → Leads tree heads j k size → Chain tree heads k l rest
      → Chain tree heads j l (max size rest)

-- the writing ends: outputs of leaves, and the top network's inputs
abbrev pub writing_end : Joint → Option End
writing_end (LeafPort l false p) = Some (AtLeaf (record { 0 = l }) p)
writing_end (LeafPort l true p) = None
writing_end (OwnPort zero true p) = Some (AtNet p)
writing_end (OwnPort zero false p) = None
writing_end (OwnPort (suc n) input p) = None

-- the reading ends: inputs of leaves, and the top network's outputs
abbrev pub reading_end : Joint → Option End
reading_end (LeafPort l true p) = Some (AtLeaf (record { 0 = l }) p)
reading_end (LeafPort l false p) = None
reading_end (OwnPort zero false p) = Some (AtNet p)
reading_end (OwnPort zero true p) = None
reading_end (OwnPort (suc n) input p) = None

-- the capacity of a link whose connections ask for none
abbrev pub default_capacity : ℕ
default_capacity = 512

-- what is asked for, and never less than a firing takes or gives at an end
abbrev pub capacity_for : ℕ → ℕ → ℕ → ℕ
capacity_for size gives takes = max (if size == 0 then default_capacity else size) (max gives takes)

-- a link joins the ends of a chain
pub record IsLink (tree : Tree) (heads : List Head) (link : Link) : Type 0 where
  pub writer : Joint
  pub reader : Joint
  pub size : ℕ
  pub chain : Chain tree heads writer reader size
  pub from : writing_end writer ≡ Some link.from
  pub to : reading_end reader ≡ Some link.to
  pub capacity : link.capacity ≡ capacity_for size (rate_at heads writer) (rate_at heads reader)
  -- the reader's type
  pub kind : kind_of tree heads reader ≡ Some link.kind

-- the sum of the capacities
abbrev pub capacities : List Link → ℕ
capacities [] = 0
capacities (link ∷ links) = link.capacity + capacities links

abbrev pub max_capacity : ℕ
max_capacity = 16777216

-- These are exactly the pairs that a chain joins, in link order.
pub record AreJoined (tree : Tree) (heads : List Head) (links : List Link) : Type 0 where
  pub each : (l : ℕ) (link : Link) → slice_get links l ≡ Some link → IsLink tree heads link
  pub all : (link : Link) → IsLink tree heads link → Contains links link
  pub in_order : (l m : ℕ) (link other : Link) → l < m → slice_get links l ≡ Some link
      → slice_get links m ≡ Some other → IsBefore link.to other.to

-- These are the links: exactly the pairs that a chain joins, in link order, and within their limits.
pub record AreLinks (tree : Tree) (heads : List Head) (links : List Link) : Type 0 where
  pub each : (l : ℕ) (link : Link) → slice_get links l ≡ Some link → IsLink tree heads link
  pub all : (link : Link) → IsLink tree heads link → Contains links link
  pub in_order : (l m : ℕ) (link other : Link) → l < m → slice_get links l ≡ Some link
      → slice_get links m ≡ Some other → IsBefore link.to other.to
  pub few : length links ≤ max_links
  pub little : capacities links ≤ max_capacity
