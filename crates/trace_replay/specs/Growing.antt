-- What comes of a line that says that a link grows.
-- Not trusted: no promise is read with it.
use Rattle.std.specs.Prelude.{◌≡◌, ℕ, List, ℤ, slice_get, Option}
use Rattle.rvc_io.specs.Feeds.{Inputs}
use Rattle.port_files.specs.Coming.{Reading}
use Rattle.net_model.specs.declared.wiring.Link.{Link}
use Rattle.net_model.specs.Ends.{Grows}
use Rattle.net_model.specs.Laws.{AreLawful}
use Rattle.net_model.specs.Network.{Network}
use Rattle.net_model.specs.State.{State}
use Rattle.net_model.specs.Trace.{OnNext, grown}
use Rattle.net_model.specs.Wired.{IsWired}
use Rattle.net_model.specs.Cell.{Cell}
use Rattle.net_state.specs.Held.{Held, HoldFew, seen}
use Rattle.net_state.specs.Moving.{SameActors, SameMarks}
use Rattle.network_runner.specs.Filling.{ReadersFit}
use Rattle.trace_replay.specs.Ending.{HoldEnough}
use Rattle.trace_replay.specs.Holding.{FitTaken, StandsHeld, stacked}
use Rattle.trace_replay.specs.declared.growth.Growth.{Growth}
use Rattle.trace_replay.specs.declared.growth.Growth.TheVariants.{Untrue, Grown, Unread}
use Rattle.trace_replay.specs.declared.holding.TakenBack.{TakenBack}

-- this holds in each state that stands in what is held, and over what stacks and feeds have
abbrev pub InHeld : {X : Type 0} → Held (Cell X) → List (List ℤ) → List (Option Reading) → Inputs
    → (Network X → List (List ℕ) → State X → State X → Type 0) → Type 0
InHeld {X} held stacks readings feeds P = (net : Network X) (inputs : List (List ℕ)) (opened s : State X)
    → StandsHeld net inputs held stacks readings feeds opened s → IsWired net → AreLawful net → P net inputs opened s

-- The growth isn't true; or it is, and each state goes on by it.
abbrev pub GrowsBy : {X : Type 0} → (grow l capacity : ℕ) → Held (Cell X) → List (List ℤ)
    → List (Option Reading) → Inputs → Held (Cell X) → List (List ℤ) → List (Option Reading) → Inputs
    → Growth → Type 0
GrowsBy grow l capacity old stacks before feeds new stacks_new after later Untrue =
    InHeld old stacks before feeds (λ net inputs opened s. Grows net grow s l capacity → ⊥)
GrowsBy grow l capacity old stacks before feeds new stacks_new after later Grown =
    InHeld old stacks before feeds (λ net inputs opened s. Grows net grow s l capacity
    × OnNext (grown s l capacity (slice_get s.flows l))
    (λ next. StandsHeld net inputs new stacks_new after later opened next))
GrowsBy grow l capacity old stacks before feeds new stacks_new after later (Unread feed) = Unit {0}

abbrev pub OnGrown : Growth → Type 0 → Type 0
OnGrown Untrue P = Unit {0}
OnGrown Grown P = P
OnGrown (Unread feed) P = Unit {0}

abbrev pub IfUnread : Growth → (ℕ → Type 0) → Type 0
IfUnread Untrue P = Unit {0}
IfUnread Grown P = Unit {0}
IfUnread (Unread feed) P = P feed

-- what the code knows then of what is held, of what was taken back and of the readers
pub record StillFits {X : Type 0} (links : List Link) (old new : Held (Cell X)) (taken : TakenBack)
    (after : List (Option Reading)) (later : Inputs) : Type 0 where
  pub taken_fits : FitTaken new taken
  pub readers : ReadersFit links after later
  pub enough : HoldEnough links new.capacities
  pub few_held : HoldFew new.capacities
  pub actors : SameActors old.cells new.cells
  pub marks : SameMarks old.cells new.cells
  pub same_links : new.links ≡ old.links

-- The same of what the code holds.

module _ {C X S : Type 0} (cell : C → Cell X) (feeds : S → Inputs) where
  abbrev pub GrowsOn : (grow l capacity : ℕ) → Held C → TakenBack → List (Option Reading) → S → Held C
      → TakenBack → List (Option Reading) → S → Growth → Type 0
  GrowsOn grow l capacity old taken before now new taken_new after later growth =
      GrowsBy grow l capacity (seen cell old) (stacked taken) before (feeds now) (seen cell new)
      (stacked taken_new) after (feeds later) growth

  abbrev pub StillFitsOn : List Link → Held C → Held C → TakenBack → List (Option Reading) → S → Growth
      → Type 0
  StillFitsOn links old new taken after later growth =
      OnGrown growth (StillFits links (seen cell old) (seen cell new) taken after (feeds later))
