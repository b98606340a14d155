-- A network that stands again as a delivery left it that was made before the last one.
-- Trusted but for `noted_or` and `IsReopening`: part of what a promise means.
use Rattle.std.specs.Prelude.{◌≡◌, ℕ, ◌≤◌, ◌<◌, false, min, max, List, length, slice_get, slice_index_or, Some}
use Rattle.net_model.specs.declared.wiring.Link.{Link}
use Rattle.net_model.specs.Network.{Network, is_input}
use Rattle.net_model.specs.State.{Flow, State, untaken}
use Rattle.net_model.specs.Cell.{Cell}
use Rattle.net_state.specs.Held.{Held}
use Rattle.net_state.specs.Standing.{IsOpened, StandsIn, StandsSince}

-- on an inner or output link at most so many tokens wait as did once, and the link can hold so many
pub record FitNoted {X : Type 0} (net : Network X) (noted : List ℕ) (s : State X) : Type 0 where
  pub waiting : (l : ℕ) (link : Link) (flow : Flow) → slice_get net.links l ≡ Some link
      → slice_get s.flows l ≡ Some flow → is_input link ≡ false
      → untaken flow ≤ slice_index_or noted l 0
  pub holds : (l : ℕ) (link : Link) (flow : Flow) → slice_get net.links l ≡ Some link
      → slice_get s.flows l ≡ Some flow → is_input link ≡ false
      → slice_index_or noted l 0 ≤ flow.capacity

-- so it is with what waited after the last delivery, in each state that stands
abbrev pub FitWaited : {X : Type 0} → Held (Cell X) → Type 0
FitWaited {X} held = (net : Network X) (s : State X) → StandsIn net held s → FitNoted net held.waited s

-- Each state that stands, and that a delivery opened after which so many tokens waited, stands so.
abbrev pub OpensAgain : {X : Type 0} → List ℕ → Held (Cell X) → Held (Cell X) → Type 0
OpensAgain {X} noted old new = (net : Network X) (opened s : State X) → StandsIn net old s
    → IsOpened net.links noted opened.flows s.flows → FitNoted net noted s
    → StandsSince net new opened s

-- what was noted, within what waits now and what the link can hold
abbrev pub noted_or : ℕ → ℕ → ℕ → ℕ
noted_or now noted capacity = max now (min noted capacity)

-- the same of the first n links, and the others stay
pub record IsReopening (n : ℕ) (noted capacities old now : List ℕ) : Type 0 where
  pub as_many : length now ≡ length old
  pub done : (l : ℕ) → l < n → slice_index_or now l 0
      ≡ noted_or (slice_index_or old l 0) (slice_index_or noted l 0) (slice_index_or capacities l 0)
  pub left : (l : ℕ) → n ≤ l → slice_index_or now l 0 ≡ slice_index_or old l 0
