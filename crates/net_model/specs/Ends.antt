-- Ends: when a run is quiet, when it is stalled, and when no link may grow any more.
-- `grow` is the greatest capacity that a link may grow to at a stall; it is 0 if none may grow.
-- Trusted: part of what a promise means.
use Rattle.std.specs.Prelude.{◌≡◌, ℕ, ◌+◌, ◌*◌, ◌≤◌, ◌<◌, ◌⊎◌, false, List, [], ◌∷◌, length, min, slice_get, Option, None, Some, if◌then◌else◌}
use Rattle.rvc_base.specs.Behaviour.{Waits, Picks}
use Rattle.net_model.specs.declared.wiring.End.{End}
use Rattle.net_model.specs.declared.wiring.End.TheVariants.{Leaf as AtLeaf, Net as AtNet}
use Rattle.net_model.specs.declared.wiring.Link.{Link}
use Rattle.net_model.specs.Network.{Network, is_input}
use Rattle.net_model.specs.State.{Flow, State, untaken, effect_at, choice_at, give_of, capacity_at}
use Rattle.net_model.specs.Event.{each_flow}

-- everything sent on inner and output links has arrived
abbrev pub AllArrived : List Link → List Flow → Type 0
AllArrived [] flows = Unit {0}
AllArrived (link ∷ links) [] = Unit {0}
AllArrived (link ∷ links) (flow ∷ flows) =
    (is_input link ≡ false → flow.arrived ≡ length flow.sent) × AllArrived links flows

pub record IsSettled {X : Type 0} (net : Network X) (s : State X) : Type 0 where
  pub untrapped : s.trapped ≡ false
  pub arrived : AllArrived net.links s.flows

-- an input link with the remainder of its feed counted as arrived
abbrev pub with_rest : Link → Flow → Flow
with_rest link flow = record {
  sent = flow.sent;
  arrived = if is_input link then length flow.sent else flow.arrived;
  taken = flow.taken;
  capacity = flow.capacity;
}

-- the state with the remainder of the feeds counted as arrived, which ends judge
abbrev pub all_fed : {X : Type 0} → Network X → State X → State X
all_fed net s = record s { flows = each_flow with_rest net.links s.flows }

-- no leaf has an exposed action that is enabled or traps
pub record IsQuiet {X : Type 0} (net : Network X) (s : State X) : Type 0 where
  pub settled : IsSettled net s
  pub nothing : (i a : ℕ) → effect_at net (all_fed net s) i a ≡ None

-- a link leads from port p of leaf i, and what the action gives there passes its room
abbrev pub HasLessRoom : (ℕ → ℕ) → ℕ → Flow → End → Type 0
HasLessRoom gives i flow (AtLeaf inst port) = (i ≡ inst.0)
    × (flow.capacity < untaken flow + gives port)
HasLessRoom gives i flow (AtNet port) = ⊥

abbrev pub LacksOn : (ℕ → ℕ) → ℕ → Option Link → Option Flow → Type 0
LacksOn gives i (Some link) (Some flow) = HasLessRoom gives i flow link.from
LacksOn gives i (Some link) None = ⊥
LacksOn gives i None flow = ⊥

-- action a of leaf i lacks room on link l
abbrev pub LacksRoom : {X : Type 0} → Network X → State X → ℕ → ℕ → ℕ → Type 0
LacksRoom net s i a l =
    LacksOn (give_of (slice_get net.leaves i) a) i (slice_get net.links l) (slice_get s.flows l)

-- each leaf waits or lacks room, and at least one lacks it: i is the lowest such leaf, a its choice, l the
-- lowest link on which it lacks room
pub record IsStalled {X : Type 0} (net : Network X) (s : State X) (i a l : ℕ) : Type 0 where
  pub settled : IsSettled net s
  pub each : (j : ℕ) → (choice_at net (all_fed net s) j ≡ Waits)
      ⊎ ((b : ℕ) × (m : ℕ) × (choice_at net (all_fed net s) j ≡ Picks b)
      × LacksRoom net (all_fed net s) j b m)
  pub chosen : choice_at net (all_fed net s) i ≡ Picks a
  pub lowest_leaf : (j : ℕ) → j < i → choice_at net (all_fed net s) j ≡ Waits
  pub lacks : LacksRoom net (all_fed net s) i a l
  pub lowest_link : (m : ℕ) → m < l → LacksRoom net (all_fed net s) i a m → ⊥

-- stalled, and the link has grown as far as it may
pub record IsStuck {X : Type 0} (net : Network X) (grow : ℕ) (s : State X) (i a l : ℕ) :
    Type 0 where
  pub stalled : IsStalled net s i a l
  pub grown : grow ≤ capacity_at s l

-- stalled, and the link may still grow: its capacity is doubled, at most up to the limit
pub record Grows {X : Type 0} (net : Network X) (grow : ℕ) (s : State X) (l capacity : ℕ) :
    Type 0 where
  pub leaf : ℕ
  pub action : ℕ
  pub stalled : IsStalled net s leaf action l
  pub below : capacity_at s l < grow
  pub doubled : capacity ≡ min (2 * capacity_at s l) grow

-- settled, and neither quiet nor stuck anywhere
pub record IsBetween {X : Type 0} (net : Network X) (grow : ℕ) (s : State X) : Type 0 where
  pub settled : IsSettled net s
  pub not_quiet : IsQuiet net s → ⊥
  pub not_stuck : (i a l : ℕ) → IsStuck net grow s i a l → ⊥
