-- What a delivery of the input links does: each is filled from its feed.
-- Trusted but for `with_flow`, `IsFullOrAll`, `IsFilledOn`, `FillsOne`, `FillsLink`, `FailsLink` and `next_feed`: part of
-- what a promise means.
use Rattle.std.specs.Prelude.{◌≡◌, ◌⊎◌, ℕ, suc, ◌≤◌, Bool, true, false, List, length, map, Result, IfOk, OnErr, OnOk, slice_get, slice_set, Option, None, Some, if◌then◌else◌}
use Rattle.rvc_io.specs.Feeds.{Inputs}
use Rattle.port_files.specs.Coming.{EndIsTrue, Reading}
use Rattle.net_model.specs.declared.wiring.Link.{Link}
use Rattle.net_model.specs.Network.{NetPort, Network, is_input}
use Rattle.net_model.specs.State.{Flow, State, untaken}
use Rattle.net_model.specs.Event.{each_flow}
use Rattle.net_model.specs.Trace.{arrivals, delivered}
use Rattle.net_model.specs.Cell.{Cell}
use Rattle.net_model.specs.Counted.{is_short, rest_at}
use Rattle.net_model.specs.PortFile.{token_bytes}
use Rattle.rvc_base.specs.declared.scalar.Scalar.{Scalar}
use Rattle.net_model.specs.Wired.{IsWired}
use Rattle.net_state.specs.declared.filling.Filled.{Filled}
use Rattle.net_state.specs.Held.{Held, seen}
use Rattle.net_state.specs.Standing.{StandsIn, StandsSince}
use Rattle.net_state.specs.Working.{AreFed, IsAtRest}
use Rattle.round_runner.specs.Pulling.{PullIsDue}
use Rattle.round_runner.specs.Running.{AreFedBy, ComesNow, feed_of}

-- a delivery of the input links alone
abbrev pub input_delivered : Link → Flow → Flow
input_delivered link flow = if is_input link then delivered link flow else flow

abbrev pub after_inputs : {X : Type 0} → Network X → State X → State X
after_inputs net s = record s { flows = each_flow input_delivered net.links s.flows }

-- One link.

-- a state in which one link has this flow
abbrev pub with_flow : {X : Type 0} → State X → ℕ → Flow → State X
with_flow s l flow = record s { flows = slice_set s.flows l flow }

-- a link is full, or all that was sent on it has arrived
abbrev pub IsFullOrAll : Flow → Type 0
IsFullOrAll flow = (untaken flow ≡ flow.capacity) ⊎ (flow.arrived ≡ length flow.sent)

-- How many bytes at the end of a link's feed are no token is told exactly if the link holds less than its capacity.
abbrev pub TellsRest : ℕ → Bool → Option ℕ → Type 0
TellsRest rest short None = short ≡ true → rest ≡ 0
TellsRest rest short (Some told) = (short ≡ true) × (told ≡ rest)

-- what came over an input link at a delivery
pub record CameOver (rest : ℕ) (link : Link) (flow : Flow) (filled : Filled) : Type 0 where
  pub tokens : filled.tokens ≡ arrivals link flow
  pub rest_told : TellsRest rest (is_short (Some (delivered link flow))) filled.rest
  -- the link holds no more than it may, if any came
  pub few : (filled.tokens ≡ 0) ⊎ (untaken (delivered link flow) ≤ flow.capacity)

-- nothing came
abbrev pub NoneCame : Filled → Type 0
NoneCame filled = (filled.tokens ≡ 0) × (filled.rest ≡ None)

-- A state in which one link was filled from its feed: so many tokens came as arrive there at a delivery.
pub record IsFilledOn {X : Type 0} (net : Network X) (s : State X) (l feed rest : ℕ) (link : Link)
    (flow : Flow) (held : Held (Cell X)) (reading : Option Reading) (feeds : Inputs)
    (filled : Filled) : Type 0 where
  pub stands : StandsSince net held (with_flow s l (input_delivered link flow))
      (with_flow s l (input_delivered link flow))
  pub fed : is_input link ≡ true
      → ComesNow (with_flow s l (input_delivered link flow)) l link feed rest reading feeds
  pub all : is_input link ≡ true → IsFullOrAll (input_delivered link flow)
  pub told : is_input link ≡ true → CameOver rest link flow filled
  pub none_told : is_input link ≡ false → NoneCame filled

-- Each state of a wired network that was just opened goes on so.
pub record FillsOne {X : Type 0} (l feed : ℕ) (old new : Held (Cell X))
    (before after : Option Reading) (feeds_old feeds_new : Inputs) (filled : Filled) : Type 0 where
  pub states : (net : Network X) (s : State X) (rest : ℕ) (link : Link) (flow : Flow)
      → StandsSince net old s s
      → IsWired net → slice_get net.links l ≡ Some link → slice_get s.flows l ≡ Some flow
      → (is_input link ≡ true → ComesNow s l link feed rest before feeds_old)
      → IsFilledOn net s l feed rest link flow new after feeds_new filled
  pub rests : IsAtRest old → IsAtRest new

-- A feed couldn't be read.

-- the type of the tokens of a reader, if there is one
abbrev pub kind_read : Option Reading → Option Scalar
kind_read None = None
kind_read (Some reading) = Some reading.kind

-- a pull is due from a feed, of which this is left
abbrev pub IsDueFrom : (kind : Scalar) (rest : ℕ) → Flow → Option (List ℕ) → Type 0
IsDueFrom kind rest flow left =
    (bytes : List ℕ) × (left ≡ Some bytes) × PullIsDue (token_bytes kind) rest flow (length bytes)

-- In each state of a wired network that was just opened a pull is due from the feed of link l.
abbrev pub FailsFor : {X : Type 0} → (l feed : ℕ) → Held (Cell X) → Option Reading → Inputs → Inputs
    → Type 0
FailsFor l feed old None feeds_old feeds_new = ⊥
FailsFor {X} l feed old (Some reading) feeds_old feeds_new = (net : Network X) (s : State X) (rest : ℕ)
    (link : Link) (flow : Flow) → StandsSince net old s s → IsWired net
    → slice_get net.links l ≡ Some link → slice_get s.flows l ≡ Some flow → is_input link ≡ true
    → ComesNow s l link feed rest (Some reading) feeds_old
    → IsDueFrom reading.kind rest flow (feeds_new.left feed)

-- .. on link l of a network, over these bytes of its inputs
pub record IsDueOn {X : Type 0} (net : Network X) (inputs : List (List ℕ)) (s : State X) (l : ℕ)
    (link : Link) (kind : Scalar) (left : Option (List ℕ)) : Type 0 where
  pub flow : Flow
  pub there : slice_get s.flows l ≡ Some flow
  pub due : IsDueFrom kind (rest_at net.ins inputs link.from) flow left

-- One of the links couldn't be filled from its feed. It has a reader of tokens of this type, and in each of these states a
-- pull is due from its feed.
pub record Stops {X : Type 0} (links : List Link) (before : List (Option Reading)) (feed : ℕ)
    (Stand : Network X → State X → Type 0) (feeds_old feeds_new : Inputs) : Type 0 where
  pub l : ℕ
  pub link : Link
  pub kind : Scalar
  pub link_at : slice_get links l ≡ Some link
  pub read_at : slice_get (map kind_read before) l ≡ Some (Some kind)
  pub from_outside : is_input link ≡ true
  pub feed_is : feed ≡ feed_of links l
  pub states : (net : Network X) (inputs : List (List ℕ)) (s : State X) → Stand net s → IsWired net
      → AreFedBy net inputs s before feeds_old
      → IsDueOn net inputs s l link kind (feeds_new.left feed)

-- .. of a network that was just opened, and of one whose delivery is to be made
abbrev pub StopsOpened : {X : Type 0} → List Link → List (Option Reading) → (feed : ℕ)
    → Held (Cell X) → Inputs → Inputs → Type 0
StopsOpened links before feed old feeds_old feeds_new =
    Stops links before feed (λ net s. StandsSince net old s s) feeds_old feeds_new

abbrev pub StopsDelivery : {X : Type 0} → List Link → List (Option Reading) → (feed : ℕ)
    → Held (Cell X) → Inputs → Inputs → Type 0
StopsDelivery links before feed old feeds_old feeds_new =
    Stops links before feed (λ net s. StandsIn net old s) feeds_old feeds_new

-- All input links.

-- what came over an input link is told, and over another nothing came
abbrev pub CameOverOn : ℕ → Link → Option Flow → Filled → Type 0
CameOverOn rest link None filled = ⊥
CameOverOn rest link (Some flow) filled = CameOver rest link flow filled

abbrev pub CameOn : List NetPort → List (List ℕ) → Option Link → Option Flow → Option Filled
    → Type 0
CameOn ports inputs None flow came = Unit {0}
CameOn ports inputs (Some link) flow None = ⊥
CameOn ports inputs (Some link) flow (Some filled) =
    (is_input link ≡ true → CameOverOn (rest_at ports inputs link.from) link flow filled)
    × (is_input link ≡ false → NoneCame filled)

-- A state at which each input link was filled: it stands, what is to come is what its feeds have still, each input
-- link is full or has all of its feed, and what came is told.
pub record IsFilled {X : Type 0} (net : Network X) (inputs : List (List ℕ)) (s : State X)
    (held : Held (Cell X)) (readings : List (Option Reading)) (feeds : Inputs)
    (came : List Filled) : Type 0 where
  pub stands : StandsSince net held (after_inputs net s) (after_inputs net s)
  pub fed : AreFedBy net inputs (after_inputs net s) readings feeds
  pub all : AreFed net (after_inputs net s)
  pub told : (l : ℕ) → CameOn net.ins inputs (slice_get net.links l) (slice_get s.flows l)
      (slice_get came l)

-- Each state of a wired network that was just opened goes on so.
pub record Fills {X : Type 0} (old new : Held (Cell X)) (before after : List (Option Reading))
    (feeds_old feeds_new : Inputs) (came : List Filled) : Type 0 where
  pub states : (net : Network X) (inputs : List (List ℕ)) (s : State X) → StandsSince net old s s
      → IsWired net → AreFedBy net inputs s before feeds_old
      → IsFilled net inputs s new after feeds_new came
  pub rests : IsAtRest old → IsAtRest new

-- a feed that is read for one of the links
abbrev pub IsFeedOf : List Link → List (Option Reading) → ℕ → Type 0
IsFeedOf links readings feed = (l : ℕ) × (reading : Reading)
    × (slice_get readings l ≡ Some (Some reading)) × (feed ≡ feed_of links l)

-- What is asked of the readers: there is one for each input link that is fed; its feed is open, and is the one that
-- was read before.
pub record ReadersFit (links : List Link) (readings : List (Option Reading)) (feeds : Inputs) :
    Type 0 where
  pub count : length readings ≡ length links
  pub inputs : (l : ℕ) (link : Link) (reading : Reading) → slice_get links l ≡ Some link
      → slice_get readings l ≡ Some (Some reading) → is_input link ≡ true
  pub open_feeds : (l : ℕ) (reading : Reading) → slice_get readings l ≡ Some (Some reading)
      → feeds.is_open (feed_of links l) ≡ true
  pub same_feeds : (l : ℕ) (reading : Reading) → slice_get readings l ≡ Some (Some reading)
      → EndIsTrue reading (feeds.left (feed_of links l))

-- no feed was opened or closed, and nothing was pulled from feed 0, which no input has
pub record SameOpen (old new : Inputs) : Type 0 where
  pub same_names : (name : List ℕ) → new.under name ≡ old.under name
  pub same_first : new.left 0 ≡ old.left 0
  pub same_open : (feed : ℕ) → new.is_open feed ≡ old.is_open feed
  pub faults_stay : old.faults ≤ new.faults

-- the number of the next feed, behind that of a link
abbrev pub next_feed : ℕ → Link → ℕ
next_feed feed link = if is_input link then suc feed else feed

module _ {C X S E : Type 0} (cell : C → Cell X) (feeds : S → Inputs) where
  -- if all went well each state goes on
  abbrev pub FillsLink : ℕ → ℕ → Held C → Held C → Option Reading → Option Reading → S → S
      → Result Filled E → Type 0
  FillsLink l feed old new before after feeds_old feeds_new result =
      IfOk result (λ filled. FillsOne l feed (seen cell old) (seen cell new) before after
      (feeds feeds_old) (feeds feeds_new) filled)

  -- if the feed couldn't be read, a pull was due
  abbrev pub FailsLink : ℕ → ℕ → Held C → Option Reading → S → S → Result Filled E → Type 0
  FailsLink l feed old before feeds_old feeds_new result =
      OnErr result (FailsFor l feed (seen cell old) before (feeds feeds_old) (feeds feeds_new))

  abbrev pub FillsAll : Held C → Held C → List (Option Reading) → List (Option Reading) → S → S
      → List Filled → Result Unit E → Type 0
  FillsAll old new before after feeds_old feeds_new came result =
      OnOk result (Fills (seen cell old) (seen cell new) before after (feeds feeds_old)
      (feeds feeds_new) came)
