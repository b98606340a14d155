-- What cells and their wiring must meet to be run, and the state in which they stand then.
-- Trusted: part of what a promise means.
use Rattle.std.specs.Prelude.{◌≡◌, ℕ, ◌≤◌, ◌<◌, ◌↔◌, true, false, List, [], ◌++◌, ℤ, length, map, slice_get, Option, None, Some, string_bytes}
use Rattle.rvc_base.specs.Lawful.{tokens_on}
use Rattle.net_model.specs.declared.wiring.End.{End}
use Rattle.net_model.specs.declared.wiring.End.TheVariants.{Leaf as AtLeaf, Net as AtNet}
use Rattle.net_model.specs.declared.wiring.Link.{Link}
use Rattle.net_model.specs.declared.wiring.Port.{Port}
use Rattle.net_model.specs.declared.wiring.Wiring.{Wiring}
use Rattle.net_model.specs.Network.{NetPort, Network, is_input, is_output, is_leaf_port}
use Rattle.net_model.specs.State.{Flow, State, fed_by}
use Rattle.net_model.specs.Cell.{Cell, number_on, HasNothingOut}
use Rattle.net_model.specs.Limits.{max_grow}
use Rattle.net_model.specs.Wired.{IsWired}

-- a port as definitions see it
abbrev pub port_of : Port → NetPort
port_of port = record { name = string_bytes port.name; kind = port.kind }

-- the network that cells and their wiring make, whatever the paths and classes of its leaves are
pub record IsNetworkOf {X : Type 0} (net : Network X) (cells : List (Cell X)) (wiring : Wiring) :
    Type 0 where
  pub actors : map (λ leaf. leaf.behaviour) net.leaves ≡ map (λ cell. cell.actor) cells
  pub links : net.links ≡ wiring.links.items
  pub ins : net.ins ≡ map port_of wiring.ins.items
  pub outs : net.outs ≡ map port_of wiring.outs.items
  pub ins_told : length wiring.open_ins.items ≡ length wiring.ins.items
  pub outs_told : length wiring.open_outs.items ≡ length wiring.outs.items

-- this holds of a cell that is there
abbrev pub OnCell : {X : Type 0} → Option (Cell X) → (Cell X → Type 0) → Type 0
OnCell None P = ⊥
OnCell (Some cell) P = P cell

-- the queue behind a writing end, and the one before a reading end, can hold so many tokens
abbrev pub OutboxHolds : {X : Type 0} → List (Cell X) → ℕ → End → Type 0
OutboxHolds cells n (AtLeaf inst port) = OnCell (slice_get cells inst.0)
    (λ cell. n ≤ number_on cell.outbox_capacities port)
OutboxHolds cells n (AtNet port) = Unit {0}

abbrev pub InboxHolds : {X : Type 0} → List (Cell X) → ℕ → End → Type 0
InboxHolds cells n (AtLeaf inst port) = OnCell (slice_get cells inst.0)
    (λ cell. n ≤ number_on cell.inbox_capacities port)
InboxHolds cells n (AtNet port) = Unit {0}

abbrev pub tokens_of : {X : Type 0} → Option (Cell X) → ℕ → List ℤ
tokens_of None p = []
tokens_of (Some cell) p = tokens_on cell.inboxes p

-- the tokens that wait before a reading end
abbrev pub waiting_at : {X : Type 0} → List (Cell X) → End → List ℤ
waiting_at cells (AtLeaf inst port) = tokens_of (slice_get cells inst.0) port
waiting_at cells (AtNet port) = []

-- what is asked of the queues of a link
pub record HasQueues {X : Type 0} (cells : List (Cell X)) (grow : ℕ) (link : Link) : Type 0 where
  pub outbox : OutboxHolds cells link.capacity link.from
  pub inbox : InboxHolds cells link.capacity link.to
  -- an inner link's queues can hold what it may grow to
  pub grown_outbox : is_input link ≡ false → is_output link ≡ false
      → OutboxHolds cells grow link.from
  pub grown_inbox : is_input link ≡ false → is_output link ≡ false → InboxHolds cells grow link.to
  pub waiting : length (waiting_at cells link.to) ≤ link.capacity

-- what is asked of a cell
pub record IsFreshCell {X : Type 0} (burst : ℕ) (cell : Cell X) : Type 0 where
  pub untrapped : cell.trapped ≡ false
  pub nothing_out : HasNothingOut cell
  pub journal : burst ≤ cell.journal_room

-- some link leaves port p of leaf i
abbrev pub IsLeft : {X : Type 0} → Network X → ℕ → ℕ → Type 0
IsLeft net i p = (l : ℕ) × (link : Link) × (slice_get net.links l ≡ Some link)
    × (is_leaf_port i p link.from ≡ true)

pub record IsReady {X : Type 0} (net : Network X) (grow burst : ℕ) (cells : List (Cell X)) :
    Type 0 where
  pub wired : IsWired net
  pub few_grown : grow ≤ max_grow
  pub fresh : (i : ℕ) (cell : Cell X) → slice_get cells i ≡ Some cell → IsFreshCell burst cell
  pub queues : (l : ℕ) (link : Link) → slice_get net.links l ≡ Some link → HasQueues cells grow link
  -- a port is without reader exactly if no link leaves it
  pub read : (i : ℕ) (cell : Cell X) → slice_get cells i ≡ Some cell
      → (p : ℕ) → p < cell.actor.outs → (0 < number_on cell.outbox_capacities p) ↔ IsLeft net i p

-- a link's tokens if its run begins from cells as they are: those that wait, and then those of its feed
abbrev pub given_flow : {X : Type 0} → Network X → List (Cell X) → List (List ℕ) → Link → Flow
given_flow net cells inputs link = record {
  sent = waiting_at cells link.to ++ fed_by net.ins inputs link link.from;
  arrived = length (waiting_at cells link.to);
  taken = 0;
  capacity = link.capacity;
}

-- The state in which a run from these cells begins. `inputs` are the bytes of each network input, in port order.
abbrev pub given_state : {X : Type 0} → Network X → List (Cell X) → List (List ℕ) → State X
given_state net cells inputs = record {
  actors = map (λ cell. cell.state) cells;
  flows = map (given_flow net cells inputs) net.links;
  trapped = false;
}
