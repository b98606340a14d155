-- A runner between two rounds, as contracts see it, and the state of the network at which it stands.
-- Trusted: part of what a promise means.
use Rattle.std.specs.Prelude.{◌≡◌, ℕ, suc, Bool, true, false, List, [], ◌∷◌, map, take, slice_get, slice_index_or, Option, None, Some, if◌then◌else◌}
use Rattle.rvc_base.specs.declared.scalar.Scalar.{Scalar}
use Rattle.rvc_base.specs.declared.round_kind.RoundKind.{RoundKind}
use Rattle.rvc_io.specs.Feeds.{Inputs}
use Rattle.port_files.specs.Coming.{EndIsTrue, Reading, coming_on}
use Rattle.net_model.specs.declared.wiring.Counts.{Counts}
use Rattle.net_model.specs.declared.wiring.End.{End}
use Rattle.net_model.specs.declared.wiring.End.TheVariants.{Leaf as AtLeaf, Net as AtNet}
use Rattle.net_model.specs.declared.wiring.Link.{Link}
use Rattle.net_model.specs.Network.{Network, is_input}
use Rattle.net_model.specs.State.{State}
use Rattle.net_model.specs.Cell.{Cell}
use Rattle.net_model.specs.Counted.{rest_at}
use Rattle.net_model.specs.Laws.{AreLawful}
use Rattle.net_model.specs.Paced.{Moment, Pace}
use Rattle.net_model.specs.PortFile.{rest_of}
use Rattle.net_model.specs.Wired.{IsWired}
use Rattle.net_state.specs.Filling.{IsFed, inflow}
use Rattle.net_state.specs.Held.{Held}
use Rattle.net_state.specs.Standing.{IsNetOf, StandsIn, unarrived}
use Rattle.round_runner.specs.declared.outcome.RunEnd.{RunEnd}

pub record Running (C : Type 0) : Type 0 where
  pub held : Held C
  -- the types of the network's ports, and which of them have a feed or a channel
  pub ins : List Scalar
  pub outs : List Scalar
  pub reads : List Bool
  pub writes : List Bool
  -- for each link the reader of its feed, if it has one
  pub readings : List (Option Reading)
  -- the policy, and by what rounds are made
  pub kind : RoundKind
  pub burst : ℕ
  pub grow : ℕ
  -- how many workers share the instances of a round, at most
  pub workers : ℕ
  -- how many rounds were made, and whether the last one fired nothing
  pub rounds : ℕ
  pub idle : Bool
  -- what is buffered for the trace, and for each output
  pub trace : List ℕ
  pub buffers : List (List ℕ)
  pub counts : Counts
  -- the end, once it has come
  pub ended : Option RunEnd

-- what is buffered for network output p
abbrev pub buffer : {C : Type 0} → Running C → ℕ → List ℕ
buffer run p = slice_index_or run.buffers p []

-- the network that is run: it is wired, and its actors are lawful; its paths, its classes and the names of its ports
-- are any
pub record IsRunOf {X : Type 0} (net : Network X) (run : Running (Cell X)) : Type 0 where
  pub is_of : IsNetOf net run.held.cells run.held.links
  pub ins : map (λ port. port.kind) net.ins ≡ run.ins
  pub outs : map (λ port. port.kind) net.outs ≡ run.outs
  pub wired : IsWired net
  pub lawful : AreLawful net

-- by what its rounds are paced, with so many firings left
abbrev pub pace_of : {C : Type 0} → Running C → ℕ → Pace
pace_of run left =
    record { kind = run.kind; burst = run.burst; budget = left; grow = run.grow }

-- the moment at which it stands
abbrev pub moment_of : {C X : Type 0} → Running C → State X → ℕ → Moment X
moment_of run s left =
    record { state = s; round = suc run.rounds; idle = run.idle; left = left }

-- Feeds.

-- how many of these links begin at an input of the network
abbrev pub count_inputs : List Link → ℕ
count_inputs [] = 0
count_inputs (link ∷ links) = if is_input link then suc (count_inputs links) else count_inputs links

-- The feed of an input link: those of input links are numbered from 1, in link order.
abbrev pub feed_of : List Link → ℕ → ℕ
feed_of links l = suc (count_inputs (take l links))

-- an input link has a feed if a word names its port
abbrev pub has_feed : List Bool → End → Bool
has_feed reads (AtLeaf inst port) = false
has_feed reads (AtNet port) = slice_index_or reads port false

-- the bytes to come are told, and as many of them are no token as of the whole file
abbrev pub HasRest : Scalar → ℕ → Option (List ℕ) → Type 0
HasRest kind rest None = ⊥
HasRest kind rest (Some bytes) = rest_of kind bytes ≡ rest

-- What is to come on link l is what is to come on this feed, at whose end so many bytes are no token; without a
-- feed nothing is.
abbrev pub ComesNow : {X : Type 0} → State X → ℕ → Link → ℕ → ℕ → Option Reading → Inputs → Type 0
ComesNow s l link feed rest None feeds = (unarrived (slice_get s.flows l) ≡ []) × (rest ≡ 0)
ComesNow s l link feed rest (Some reading) feeds = IsFed s l (Some link) (inflow reading feeds feed)
    × HasRest reading.kind rest (coming_on reading.pulled feeds feed)

-- the same of a link of which it isn't known whether there is a place for its reader
abbrev pub ComesBy : {X : Type 0} → State X → ℕ → Link → ℕ → ℕ → Option (Option Reading) → Inputs
    → Type 0
ComesBy s l link feed rest None feeds = ⊥
ComesBy s l link feed rest (Some reading) feeds = ComesNow s l link feed rest reading feeds

-- the same of each input link, over the bytes of the files from which the run began
abbrev pub AreFedBy : {X : Type 0} → Network X → List (List ℕ) → State X → List (Option Reading)
    → Inputs → Type 0
AreFedBy net inputs s readings feeds = (l : ℕ) (link : Link) → slice_get net.links l ≡ Some link
    → is_input link ≡ true
    → ComesBy s l link (feed_of net.links l) (rest_at net.ins inputs link.from)
    (slice_get readings l) feeds

-- The state stands in the cells, and what is to come from outside is what its feeds have. `inputs` are the bytes of
-- the files from which the run began.
pub record StandsWith {X : Type 0} (net : Network X) (inputs : List (List ℕ))
    (run : Running (Cell X)) (feeds : Inputs) (s : State X) : Type 0 where
  pub is_run_of : IsRunOf net run
  pub stands : StandsIn net run.held s
  pub fed : AreFedBy net inputs s run.readings feeds

-- What a call asks of the outside.

-- the feed of each input link that has one is open, and is the one that was read before
pub record FeedsFit {C : Type 0} (run : Running C) (feeds : Inputs) : Type 0 where
  pub open_feeds : (l : ℕ) (link : Link) → slice_get run.held.links l ≡ Some link
      → has_feed run.reads link.from ≡ true
      → feeds.is_open (feed_of run.held.links l) ≡ true
  pub same_feeds : (l : ℕ) (reading : Reading) → slice_get run.readings l ≡ Some (Some reading)
      → EndIsTrue reading (feeds.left (feed_of run.held.links l))
