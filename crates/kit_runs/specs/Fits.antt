-- What is asked of actors, wiring and plan, so that they can be run.
-- Not trusted: no promise is read with it.
use Rattle.std.specs.Prelude.{◌≡◌, ℕ, ◌≤◌, ◌<◌, Bool, true, false, nat_le, List, [], ◌∷◌, length, slice_get, Option, None, Some, if◌then◌else◌}
use Rattle.lowered_actor.specs.Actor.{Action, Actor, number_on}
use Rattle.net_model.specs.declared.wiring.End.{End}
use Rattle.net_model.specs.declared.wiring.End.TheVariants.{Leaf as AtLeaf, Net as AtNet}
use Rattle.net_model.specs.declared.wiring.Link.{Link}
use Rattle.net_model.specs.declared.wiring.Wiring.{Wiring}
use Rattle.net_model.specs.Network.{is_input, is_output}
use Rattle.net_model.specs.Limits.{max_grow, max_instances, max_links, max_rate}
use Rattle.round_runner.specs.declared.outcome.Plan.{Plan}
use Rattle.network_runner.specs.Sending.{max_outlets}
use Rattle.kit_runs.specs.Links.{HasOutKind, are_in_order, are_ports_sized, is_size}

-- Rates.

-- none of these numbers is more than a firing may take or give
abbrev pub are_few : List ℕ → Bool
are_few [] = true
are_few (n ∷ ns) = if nat_le n max_rate then are_few ns else false

pub record HasFewOf (action : Action) : Type 0 where
  pub taken : are_few action.needs ≡ true
  pub given : are_few action.gives ≡ true

-- this holds of the first n of these
abbrev pub OfFirst : {A : Type 0} → ℕ → List A → (A → Type 0) → Type 0
OfFirst {A} n xs P = (k : ℕ) (x : A) → k < n → slice_get xs k ≡ Some x → P x

-- .. and of each
abbrev pub OfEach : {A : Type 0} → List A → (A → Type 0) → Type 0
OfEach {A} xs P = (k : ℕ) (x : A) → slice_get xs k ≡ Some x → P x

-- what an action gives on a port, or takes from it
abbrev pub rate_of : Bool → Action → ℕ → ℕ
rate_of true action p = number_on action.gives p
rate_of false action p = number_on action.needs p

abbrev pub IsWithin : Bool → ℕ → ℕ → Action → Type 0
IsWithin gives p capacity action = rate_of gives action p ≤ capacity

-- Links.

abbrev pub OnActor : Option Actor → (Actor → Type 0) → Type 0
OnActor None P = ⊥
OnActor (Some actor) P = P actor

abbrev pub ports_of : Bool → Actor → ℕ
ports_of true actor = actor.outs
ports_of false actor = actor.ins

-- the port is there, and no action gives there, or takes from it, more than this
pub record HasPort (gives : Bool) (p capacity : ℕ) (actor : Actor) : Type 0 where
  pub there : p < ports_of gives actor
  pub rates : OfEach actor.actions (IsWithin gives p capacity)

-- an end of a link is there and can work with its capacity; the network has so many ports
abbrev pub IsEnd : Bool → List Actor → ℕ → ℕ → End → Type 0
IsEnd gives actors ports capacity (AtLeaf inst port) = OnActor (slice_get actors inst.0)
    (HasPort gives port capacity)
IsEnd gives actors ports capacity (AtNet port) = port < ports

pub record IsLinkFine (actors : List Actor) (wiring : Wiring) (link : Link) : Type 0 where
  pub source : IsEnd true actors (length wiring.ins.items) link.capacity link.from
  pub target : IsEnd false actors (length wiring.outs.items) link.capacity link.to
  pub inside : is_input link ≡ true → is_output link ≡ false
  pub out_kind : HasOutKind wiring.outs.items link.kind link.to
  pub size : is_size link.kind ≡ true

-- All of it.

abbrev pub HasFewRates : Actor → Type 0
HasFewRates actor = OfEach actor.actions HasFewOf

pub record IsPlanFine (plan : Plan) : Type 0 where
  pub workers : (1 ≤ plan.workers) × (plan.workers ≤ 64)
  pub bursts : (1 ≤ plan.burst) × (plan.burst ≤ 65536)
  pub grow : plan.grow ≤ max_grow

pub record IsWiringFine (wiring : Wiring) : Type 0 where
  pub ins_told : length wiring.open_ins.items ≡ length wiring.ins.items
  pub outs_told : length wiring.open_outs.items ≡ length wiring.outs.items
  pub few_outs : length wiring.outs.items ≤ max_outlets
  pub few_links : length wiring.links.items ≤ max_links
  pub in_sizes : are_ports_sized wiring.ins.items ≡ true
  pub out_sizes : are_ports_sized wiring.outs.items ≡ true
  pub in_order : are_in_order wiring.links.items ≡ true

pub record IsFine (actors : List Actor) (wiring : Wiring) (plan : Plan) : Type 0 where
  pub plan_is : IsPlanFine plan
  pub wiring_is : IsWiringFine wiring
  pub few_actors : length actors ≤ max_instances
  pub rates : OfEach actors HasFewRates
  pub links : OfEach wiring.links.items (IsLinkFine actors wiring)
