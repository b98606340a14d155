-- Events: what can happen to a network, and what it makes of a state. Which comes next is free.
-- Trusted: part of what a promise means.
use Rattle.std.specs.Prelude.{ℕ, ◌+◌, true, List, [], ◌∷◌, ◌++◌, ℤ, map, length, if◌then◌else◌, ◌==◌, nat_le, slice_index_or, slice_get, slice_set, Option, None, Some}
use Rattle.rvc_base.specs.declared.trap.Trap.{Trap as TrapName}
use Rattle.rvc_base.specs.declared.trap.Trap.TheVariants.{Overflow, DivideByZero, IndexRange, ShiftRange, TurnLimit}
use Rattle.rvc_base.specs.Storing.{conv}
use Rattle.rvc_base.specs.Behaviour.{Effect, Fires, TrapsInGuard, TrapsInBody}
use Rattle.net_model.specs.declared.wiring.End.{End}
use Rattle.net_model.specs.declared.wiring.End.TheVariants.{Leaf as AtLeaf, Net as AtNet}
use Rattle.net_model.specs.declared.wiring.Link.{Link}
use Rattle.net_model.specs.Network.{Network, is_output}
use Rattle.net_model.specs.State.{Flow, State, effect_at, need_of}

pub data Event : Type 0 where
  -- leaf i fires action a
  Fire : (i a : ℕ) → Event
  -- k more tokens of link l arrive
  Deliver : (l k : ℕ) → Event
  -- action a of leaf i traps
  Trap : (i a : ℕ) → TrapName → Event

-- a change of each flow by its link
abbrev pub each_flow : (Link → Flow → Flow) → List Link → List Flow → List Flow
each_flow change [] flows = []
each_flow change (link ∷ links) [] = []
each_flow change (link ∷ links) (flow ∷ flows) = change link flow ∷ each_flow change links flows

-- what a firing of leaf i sends on a link: the tokens of its port, stored in the reader's type
abbrev pub sent_on : ℕ → List (List ℤ) → Link → End → List ℤ
sent_on i sent link (AtLeaf inst port) = if i == inst.0
    then map (conv link.kind) (slice_index_or sent port []) else []
sent_on i sent link (AtNet port) = []

-- how many tokens a firing of leaf i takes from a link
abbrev pub taken_from : ℕ → (ℕ → ℕ) → End → ℕ
taken_from i needs (AtLeaf inst port) = if i == inst.0 then needs port else 0
taken_from i needs (AtNet port) = 0

abbrev pub after_firing : ℕ → (ℕ → ℕ) → List (List ℤ) → Link → Flow → Flow
after_firing i needs sent link flow = record {
  sent = flow.sent ++ sent_on i sent link link.from;
  arrived = flow.arrived;
  taken = flow.taken + taken_from i needs link.to;
  capacity = flow.capacity;
}

abbrev pub fire : {X : Type 0} → Network X → State X → ℕ → ℕ → Option (Effect X) → Option (State X)
fire net s i a (Some (Fires x sent)) = Some (record {
  actors = slice_set s.actors i x;
  flows = each_flow (after_firing i (need_of (slice_get net.leaves i) a) sent) net.links s.flows;
  trapped = s.trapped;
})
fire net s i a (Some (TrapsInGuard c)) = None
fire net s i a (Some (TrapsInBody c)) = None
fire net s i a None = None

-- k more tokens of a link arrive; on an output link they count as taken at once
abbrev pub after_arrival : ℕ → Link → Flow → Flow
after_arrival k link flow = record {
  sent = flow.sent;
  arrived = flow.arrived + k;
  taken = if is_output link then flow.taken + k else flow.taken;
  capacity = flow.capacity;
}

abbrev pub deliver : {X : Type 0} → State X → ℕ → ℕ → Option Link → Option Flow → Option (State X)
deliver s l k (Some link) (Some flow) =
    if nat_le (flow.arrived + k) (length flow.sent)
    then Some (record s { flows = slice_set s.flows l (after_arrival k link flow) })
    else None
deliver s l k (Some link) None = None
deliver s l k None flow = None

abbrev pub number_of_trap : TrapName → ℕ
number_of_trap Overflow = 0
number_of_trap DivideByZero = 1
number_of_trap IndexRange = 2
number_of_trap ShiftRange = 3
number_of_trap TurnLimit = 4

-- a trap of the guards or of the rest sets the mark
abbrev pub trap : {X : Type 0} → State X → TrapName → Option (Effect X) → Option (State X)
trap s c (Some (Fires x sent)) = None
trap s c (Some (TrapsInGuard d)) =
    if number_of_trap c == number_of_trap d then Some (record s { trapped = true }) else None
trap s c (Some (TrapsInBody d)) =
    if number_of_trap c == number_of_trap d then Some (record s { trapped = true }) else None
trap s c None = None

-- the state after an event that may happen in an untrapped state
abbrev pub permitted : {X : Type 0} → Network X → State X → Event → Option (State X)
permitted net s (Fire i a) = fire net s i a (effect_at net s i a)
permitted net s (Deliver l k) = deliver s l k (slice_get net.links l) (slice_get s.flows l)
permitted net s (Trap i a c) = trap s c (effect_at net s i a)

-- the state after an event, or none if it may not happen; after a trap none may
abbrev pub happens : {X : Type 0} → Network X → State X → Event → Option (State X)
happens net s event = if s.trapped then None else permitted net s event

abbrev pub and_then : {A B : Type 0} → Option A → (A → Option B) → Option B
and_then None f = None
and_then (Some x) f = f x

-- the state after events, each permitted where it stands
abbrev pub run : {X : Type 0} → Network X → State X → List Event → Option (State X)
run net s [] = Some s
run net s (event ∷ events) = and_then (happens net s event) (λ next. run net next events)
