-- What goes out to the channels of a network's outputs.
-- Trusted but for `SendsLink` and `BreaksLink`: part of what a promise means.
use Rattle.std.specs.Prelude.{◌≡◌, ℕ, suc, ◌+◌, ◌≤◌, true, false, List, [], ◌++◌, ℤ, flat_map, length, map, Result, OnOk, OnErr, Some, slice_get, slice_index_or, if◌then◌else◌}
use Rattle.rvc_base.specs.Storing.{IsSize}
use Rattle.rvc_io.specs.Channels.{Channels}
use Rattle.channel_writer.specs.Held.{AppendsFront, WritesOn}
use Rattle.net_model.specs.declared.wiring.End.{End}
use Rattle.net_model.specs.declared.wiring.End.TheVariants.{Leaf as AtLeaf, Net as AtNet}
use Rattle.net_model.specs.declared.wiring.Link.{Link}
use Rattle.net_model.specs.Network.{is_input, is_net_port}
use Rattle.net_model.specs.Cell.{Cell}
use Rattle.net_state.specs.Moving.{carried}
use Rattle.round_runner.specs.Sending.{stored_bytes}
use Rattle.network_runner.specs.declared.sending.Outlet.{Outlet}

-- what was sent over a link to network output p and hasn't left, and over several
abbrev pub outgoing_on : {X : Type 0} → ℕ → List (Cell X) → Link → List ℤ
outgoing_on p cells link = if is_net_port p link.to then carried cells link else []

abbrev pub outgoing_to : {X : Type 0} → ℕ → List (Cell X) → List Link → List ℤ
outgoing_to p cells links = flat_map (outgoing_on p cells) links

-- the channel of an output that has one
abbrev pub IsChannelOf : List Outlet → ℕ → Type 0
IsChannelOf outlets channel = (p : ℕ) × (outlet : Outlet) × (slice_get outlets p ≡ Some outlet)
    × (outlet.is_open ≡ true) × (channel ≡ 2 + p)

-- an outlet is there for each output to which a link leads, and such a link begins at a cell
abbrev pub HasOutlet : List Outlet → Link → End → Type 0
HasOutlet outlets link (AtLeaf inst port) = Unit {0}
HasOutlet outlets link (AtNet port) =
    (suc port ≤ length outlets) × (is_input link ≡ false)

-- so many outputs have a channel's number
abbrev pub max_outlets : ℕ
max_outlets = 4294967293

-- the channel of each output that has one is open
abbrev pub OutletsOpen : List Outlet → Channels → Type 0
OutletsOpen outlets channels = (p : ℕ) (outlet : Outlet) → slice_get outlets p ≡ Some outlet
    → outlet.is_open ≡ true → channels.is_open (2 + p) ≡ true

-- what is asked of the outputs: a link leads to none that isn't there, and the channels are open
pub record OutletsFit (links : List Link) (outlets : List Outlet) (channels : Channels) :
    Type 0 where
  pub few : length outlets ≤ max_outlets
  pub sizes : (p : ℕ) (outlet : Outlet) → slice_get outlets p ≡ Some outlet → IsSize outlet.kind
  pub led_to : (l : ℕ) (link : Link) → slice_get links l ≡ Some link → HasOutlet outlets link link.to
  pub open_channels : OutletsOpen outlets channels

-- each output that has a channel: what its text is, and what is buffered for it
abbrev pub EachOutlet : List Outlet → (ℕ → Outlet → Type 0) → Type 0
EachOutlet outlets P = (p : ℕ) (outlet : Outlet) → slice_get outlets p ≡ Some outlet
    → outlet.is_open ≡ true → P p outlet

abbrev pub buffered : List (List ℕ) → ℕ → List ℕ
buffered writers p = slice_index_or writers p []

-- each got its text, of which a part may be buffered
abbrev pub SendsTexts : List Outlet → (ℕ → List ℤ) → Channels → Channels → List (List ℕ)
    → List (List ℕ) → Type 0
SendsTexts outlets tokens old new before after = EachOutlet outlets (λ p outlet.
    WritesOn (2 + p) old new (buffered before p) (buffered after p)
    (stored_bytes outlet.kind (tokens p)))

-- each got a prefix of its text
abbrev pub SendsFronts : List Outlet → (ℕ → List ℤ) → Channels → Channels → List (List ℕ) → Type 0
SendsFronts outlets tokens old new before = EachOutlet outlets (λ p outlet.
    AppendsFront (2 + p) old new (buffered before p ++ stored_bytes outlet.kind (tokens p)))

-- no channel was opened or closed, and those that aren't of these outputs hold what they held
pub record SendsOnly (outlets : List Outlet) (old new : Channels) : Type 0 where
  pub same_telling : new.tells ≡ old.tells
  pub same_others : old.tells ≡ true → (channel : ℕ) → (IsChannelOf outlets channel → ⊥)
      → new.held channel ≡ old.held channel
  pub same_open : (channel : ℕ) → new.is_open channel ≡ old.is_open channel
  pub faults_stay : old.faults ≤ new.faults

module _ {C X S E : Type 0} (cell : C → Cell X) (channels : S → Channels) (outlets : List Outlet) where
  abbrev pub SendsLink : List C → Link → S → S → List (List ℕ) → List (List ℕ) → Result Unit E
      → Type 0
  SendsLink cells link old new before after result =
      OnOk result (SendsTexts outlets (λ p. outgoing_on p (map cell cells) link)
      (channels old) (channels new) before after)

  abbrev pub BreaksLink : List C → Link → S → S → List (List ℕ) → Result Unit E → Type 0
  BreaksLink cells link old new before result =
      OnErr result (SendsFronts outlets (λ p. outgoing_on p (map cell cells) link)
      (channels old) (channels new) before)

  abbrev pub SendsAll : List C → List Link → S → S → List (List ℕ) → List (List ℕ)
      → Result Unit E → Type 0
  SendsAll cells links old new before after result =
      OnOk result (SendsTexts outlets (λ p. outgoing_to p (map cell cells) links)
      (channels old) (channels new) before after)

  abbrev pub BreaksAll : List C → List Link → S → S → List (List ℕ) → Result Unit E → Type 0
  BreaksAll cells links old new before result =
      OnErr result (SendsFronts outlets (λ p. outgoing_to p (map cell cells) links)
      (channels old) (channels new) before)
