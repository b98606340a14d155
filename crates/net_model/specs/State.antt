-- The state of a network: its actors' states, and what was sent, has arrived and was taken on each link, and
-- how many tokens the link can hold now.
-- Trusted: part of what a promise means.
use Rattle.std.specs.Prelude.{ℕ, ◌-◌, Bool, false, List, [], ◌∷◌, ℤ, map, take, drop, if◌then◌else◌, slice_index_or, slice_get, Option, None, Some}
use Rattle.std.specs.List.{range_with_len}
use Rattle.rvc_base.specs.Storing.{conv}
use Rattle.rvc_base.specs.Behaviour.{Effect, Choice, Waits}
use Rattle.net_model.specs.declared.wiring.End.{End}
use Rattle.net_model.specs.declared.wiring.End.TheVariants.{Leaf as AtLeaf, Net as AtNet}
use Rattle.net_model.specs.declared.wiring.Link.{Link}
use Rattle.net_model.specs.PortFile.{tokens}
use Rattle.net_model.specs.Network.{NetPort, Leaf, Network, kind_at, is_leaf_port, is_net_port}

-- a link's tokens: all that were sent, how many of them have arrived, and how many were taken; and its
-- present capacity
pub record Flow : Type 0 where
  pub sent : List ℤ
  pub arrived : ℕ
  pub taken : ℕ
  pub capacity : ℕ

-- one actor's state a leaf, one flow a link, and whether a firing trapped
pub record State (X : Type 0) : Type 0 where
  pub actors : List X
  pub flows : List Flow
  pub trapped : Bool

-- the tokens that have arrived and weren't taken
abbrev pub waiting : Flow → List ℤ
waiting flow = drop flow.taken (take flow.arrived flow.sent)

-- how many these are
abbrev pub untaken : Flow → ℕ
untaken flow = flow.arrived - flow.taken

-- the tokens of an input's bytes, stored in the type of the network's port and then in the reader's
abbrev pub fed_by : List NetPort → List (List ℕ) → Link → End → List ℤ
fed_by ports inputs link (AtLeaf inst port) = []
fed_by ports inputs link (AtNet port) =
    map (conv link.kind) (tokens (kind_at ports port) (slice_index_or inputs port []))

-- a link's capacity is where its present one starts
abbrev pub first_flow : List NetPort → List (List ℕ) → Link → Flow
first_flow ports inputs link =
    record {
      sent = fed_by ports inputs link link.from;
      arrived = 0;
      taken = 0;
      capacity = link.capacity;
    }

-- The state in which each run from files begins. `inputs` are the bytes of each network input, in port order.
abbrev pub start_of : {X : Type 0} → Network X → List (List ℕ) → State X
start_of net inputs = record {
  actors = map (λ leaf. leaf.behaviour.start) net.leaves;
  flows = map (first_flow net.ins inputs) net.links;
  trapped = false;
}

-- the tokens before an input port: those that wait on the link that leads there
abbrev pub inbox : ℕ → ℕ → List Link → List Flow → List ℤ
inbox i p [] flows = []
inbox i p (link ∷ links) [] = []
inbox i p (link ∷ links) (flow ∷ flows) = if is_leaf_port i p link.to then waiting flow
    else inbox i p links flows

-- the tokens before each input port of a leaf
abbrev pub inboxes : ℕ → ℕ → List Link → List Flow → List (List ℤ)
inboxes i ins links flows = map (λ p. inbox i p links flows) (range_with_len 0 ins)

-- what action a of leaf i would do now, if it is exposed and its guards aren't false
abbrev pub effect_of : {X : Type 0} → List Link → List Flow → ℕ → ℕ → Option (Leaf X) → Option X
    → Option (Effect X)
effect_of links flows i a None x = None
effect_of links flows i a (Some leaf) None = None
effect_of links flows i a (Some leaf) (Some x) =
    leaf.behaviour.effect x (inboxes i leaf.behaviour.ins links flows) a

abbrev pub effect_at : {X : Type 0} → Network X → State X → ℕ → ℕ → Option (Effect X)
effect_at net s i a =
    effect_of net.links s.flows i a (slice_get net.leaves i) (slice_get s.actors i)

-- the action of leaf i that is to fire now
abbrev pub choice_of : {X : Type 0} → List Link → List Flow → ℕ → Option (Leaf X) → Option X
    → Choice
choice_of links flows i None x = Waits
choice_of links flows i (Some leaf) None = Waits
choice_of links flows i (Some leaf) (Some x) =
    leaf.behaviour.choice x (inboxes i leaf.behaviour.ins links flows)

abbrev pub choice_at : {X : Type 0} → Network X → State X → ℕ → Choice
choice_at net s i = choice_of net.links s.flows i (slice_get net.leaves i) (slice_get s.actors i)

-- how many tokens an action of leaf i takes from a port, and gives on one
abbrev pub need_of : {X : Type 0} → Option (Leaf X) → ℕ → ℕ → ℕ
need_of None a p = 0
need_of (Some leaf) a p = leaf.behaviour.need a p

abbrev pub give_of : {X : Type 0} → Option (Leaf X) → ℕ → ℕ → ℕ
give_of None a p = 0
give_of (Some leaf) a p = leaf.behaviour.give a p

-- the bytes of network output p are those of the tokens sent on the link that leads there
abbrev pub sent_to : ℕ → List Link → List Flow → List ℤ
sent_to p [] flows = []
sent_to p (link ∷ links) [] = []
sent_to p (link ∷ links) (flow ∷ flows) =
    if is_net_port p link.to then flow.sent else sent_to p links flows

-- the present capacity of link l
abbrev pub capacity_of : Option Flow → ℕ
capacity_of None = 0
capacity_of (Some flow) = flow.capacity

abbrev pub capacity_at : {X : Type 0} → State X → ℕ → ℕ
capacity_at s l = capacity_of (slice_get s.flows l)
