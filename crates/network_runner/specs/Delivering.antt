-- What a delivery does: all that was sent inside arrives, and each input link is filled from its feed.
-- Trusted: part of what a promise means.
use Rattle.std.specs.Prelude.{ℕ, List, Result, OnOk, Option, slice_get}
use Rattle.rvc_io.specs.Feeds.{Inputs}
use Rattle.port_files.specs.Coming.{Reading}
use Rattle.net_model.specs.Network.{Network}
use Rattle.net_model.specs.State.{State}
use Rattle.net_model.specs.Trace.{after_delivery}
use Rattle.net_model.specs.Cell.{Cell}
use Rattle.net_model.specs.Wired.{IsWired}
use Rattle.net_state.specs.declared.filling.Filled.{Filled}
use Rattle.net_state.specs.Held.{Held, seen}
use Rattle.net_state.specs.Standing.{StandsIn, StandsSince}
use Rattle.net_state.specs.Working.{AreFed, IsAtRest}
use Rattle.round_runner.specs.Running.{AreFedBy}
use Rattle.network_runner.specs.Filling.{CameOn}

-- A state to which a delivery led: it was opened by it and stands, what is to come is what its feeds have still, each
-- input link is full or has all of its feed, and what came over input links is told.
pub record IsDelivered {X : Type 0} (net : Network X) (inputs : List (List ℕ)) (s : State X)
    (held : Held (Cell X)) (readings : List (Option Reading)) (feeds : Inputs)
    (came : List Filled) : Type 0 where
  pub stands : StandsSince net held (after_delivery net s) (after_delivery net s)
  pub fed : AreFedBy net inputs (after_delivery net s) readings feeds
  pub all : AreFed net (after_delivery net s)
  pub told : (l : ℕ) → CameOn net.ins inputs (slice_get net.links l) (slice_get s.flows l)
      (slice_get came l)

-- Each state of a wired network goes on by a delivery, and the network is at rest.
pub record Delivers {X : Type 0} (old new : Held (Cell X)) (before after : List (Option Reading))
    (feeds_old feeds_new : Inputs) (came : List Filled) : Type 0 where
  pub states : (net : Network X) (inputs : List (List ℕ)) (s : State X) → StandsIn net old s
      → IsWired net → AreFedBy net inputs s before feeds_old
      → IsDelivered net inputs s new after feeds_new came
  pub rests : IsAtRest new

module _ {C X S E : Type 0} (cell : C → Cell X) (feeds : S → Inputs) where
  -- if all went well each state goes on so
  abbrev pub DeliversAll : Held C → Held C → List (Option Reading) → List (Option Reading) → S → S
      → List Filled → Result Unit E → Type 0
  DeliversAll old new before after feeds_old feeds_new came result =
      OnOk result (Delivers (seen cell old) (seen cell new) before after (feeds feeds_old)
      (feeds feeds_new) came)
