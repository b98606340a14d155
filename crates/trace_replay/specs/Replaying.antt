-- A trace that is replayed over cells, their wiring and feeds: what is asked of them, and what is told.
-- Trusted but for `HaveInputPorts`: part of what a promise means.
use Rattle.std.specs.Prelude.{◌≡◌, ℕ, ◌≤◌, Bool, true, false, List, [], length, map, slice_get, slice_index_or, Some, String, string_bytes}
use Rattle.std.specs.declared.alloc.Global.{Global as Heap}
use Rattle.rvc_base.specs.Storing.{IsSize}
use Rattle.rvc_io.specs.Feeds.{Inputs}
use Rattle.trace_text.specs.declared.line.Line.{Line}
use Rattle.net_model.specs.declared.wiring.End.{End}
use Rattle.net_model.specs.declared.wiring.End.TheVariants.{Leaf as AtLeaf, Net as AtNet}
use Rattle.net_model.specs.declared.wiring.Link.{Link}
use Rattle.net_model.specs.declared.wiring.Port.{Port}
use Rattle.net_model.specs.declared.wiring.Wiring.{Wiring}
use Rattle.net_model.specs.Network.{Network}
use Rattle.net_model.specs.State.{State}
use Rattle.net_model.specs.Counted.{IsCounted}
use Rattle.net_model.specs.Cell.{Cell}
use Rattle.net_model.specs.Ready.{IsNetworkOf, IsReady, given_state}
use Rattle.net_state.specs.Beginning.{HaveSizes, NoneUnlinked}
use Rattle.network_runner.specs.Asking.{HavePortSizes}
use Rattle.trace_replay.specs.Feeding.{feed_of, has_feed}
use Rattle.trace_replay.specs.Head.{name_of}
use Rattle.trace_replay.specs.Judging.{IsNotRun, IsTrace, Trial, max_trace_bytes}
use Rattle.trace_replay.specs.declared.bytes.TheConstants.{TRACE_FEED}
use Rattle.trace_replay.specs.declared.replayed.Replayed.{Replayed}
use Rattle.trace_replay.specs.declared.why.ReplayFault.{ReplayFault}
use Rattle.trace_replay.specs.declared.why.ReplayFault.TheVariants.{NotRun, ReadFault, Memory}

-- What is asked.

-- a network of these cells and this wiring that is ready to be run, with any paths and classes
pub record IsReadyAs {X : Type 0} (net : Network X) (cells : List (Cell X)) (wiring : Wiring) (grow : ℕ) : Type 0 where
  pub is_of : IsNetworkOf net cells wiring
  pub ready : IsReady net grow 0 cells

pub record CanReplay {X : Type 0} (cells : List (Cell X)) (wiring : Wiring) (grow : ℕ)
    (names : List (List ℕ)) (feeds : Inputs) : Type 0 where
  pub ready : (net : Network X) × IsReadyAs net cells wiring grow
  -- each link and each input of the network has a type of tokens
  pub sizes : HaveSizes wiring.links.items
  pub input_sizes : (p : ℕ) (port : Port) → slice_get wiring.ins.items p ≡ Some port
      → IsSize port.kind
  pub unlinked : NoneUnlinked cells wiring.links.items
  -- one name for each cell
  pub named : length names ≡ length cells
  -- the trace and each input link that has a feed are open
  pub trace_open : feeds.is_open TRACE_FEED ≡ true
  pub inputs_open : (l : ℕ) (link : Link) → slice_get wiring.links.items l ≡ Some link
      → has_feed wiring.open_ins.items link.from ≡ true
      → feeds.is_open (feed_of wiring.links.items l) ≡ true

-- What is told.

-- the bytes of a network input are those of its feed; without one it has none
abbrev pub IsInputTold : Bool → ℕ → List ℕ → Inputs → Type 0
IsInputTold true feed bytes feeds = feeds.left feed ≡ Some bytes
IsInputTold false feed bytes feeds = bytes ≡ []

abbrev pub IsEndTold : List Bool → List (List ℕ) → ℕ → Inputs → End → Type 0
IsEndTold opened inputs feed feeds (AtLeaf inst port) = Unit {0}
IsEndTold opened inputs feed feeds (AtNet port) =
    IsInputTold (slice_index_or opened port false) feed (slice_index_or inputs port []) feeds

-- The trace that feeds tell, and what it is judged by: the network that cells, wiring and names make, the limit of
-- growth, and the state in which the run begins. `inputs` are the bytes of each network input, in port order.
pub record IsReplayOf {X : Type 0} (t : Trial X) (text : List ℕ) (inputs : List (List ℕ))
    (cells : List (Cell X)) (wiring : Wiring) (grow : ℕ) (names : List (List ℕ))
    (feeds : Inputs) : Type 0 where
  pub is_of : IsNetworkOf t.net cells wiring
  pub grow_is : t.grow ≡ grow
  pub start : t.start ≡ given_state t.net cells inputs
  pub names_are : map name_of t.net.leaves ≡ names
  pub trace : feeds.left TRACE_FEED ≡ Some text
  pub told : (l : ℕ) (link : Link) → slice_get wiring.links.items l ≡ Some link
      → IsEndTold wiring.open_ins.items inputs (feed_of wiring.links.items l) feeds link.from

-- The text is the trace of a run with this end line over these inputs, and not longer than a trace may be, and the
-- numbers count its lines.
pub record IsReplayed {X : Type 0} (t : Trial X) (text : List ℕ) (inputs : List (List ℕ))
    (replayed : Replayed) : Type 0 where
  pub lines : List Line
  pub last : State X
  pub is_trace : IsTrace t text lines replayed.end last
  pub within : length text ≤ max_trace_bytes
  pub counted : IsCounted t.net inputs t.start lines last replayed.counts

-- .. and it is no trace that is so long at most
abbrev pub IsNone : {X : Type 0} → Trial X → List ℕ → Type 0
IsNone {X} t text = (lines : List Line) (end : Line) (last : State X) → length text ≤ max_trace_bytes
    → IsTrace t text lines end last → ⊥

-- no run has line n with the lines before it, and so the text is no trace
abbrev pub IsRefused : {X : Type 0} → Trial X → List ℕ → ReplayFault → Type 0
IsRefused t text (NotRun line why) = IsNotRun t text line why × IsNone t text
IsRefused t text (ReadFault feed) = Unit {0}
IsRefused t text Memory = Unit {0}

abbrev pub Replays : {X : Type 0} → List (Cell X) → Wiring → ℕ → List (List ℕ) → Inputs → Replayed
    → Type 0
Replays {X} cells wiring grow names feeds replayed = (t : Trial X) (text : List ℕ) (inputs : List (List ℕ))
    → IsReplayOf t text inputs cells wiring grow names feeds → IsReplayed t text inputs replayed

abbrev pub Refuses : {X : Type 0} → List (Cell X) → Wiring → ℕ → List (List ℕ) → Inputs → ReplayFault
    → Type 0
Refuses {X} cells wiring grow names feeds fault = (t : Trial X) (text : List ℕ)
    (inputs : List (List ℕ)) → IsReplayOf t text inputs cells wiring grow names feeds
    → IsRefused t text fault

-- The same of what the code is given.

module _ {C X S : Type 0} (cell : C → Cell X) (feeds : S → Inputs) where
  abbrev pub ReplaysOn : List C → Wiring → ℕ → List (String Heap) → S → Replayed → Type 0
  ReplaysOn cells wiring grow names now replayed =
      Replays (map cell cells) wiring grow (map string_bytes names) (feeds now) replayed

  abbrev pub RefusesOn : List C → Wiring → ℕ → List (String Heap) → S → ReplayFault → Type 0
  RefusesOn cells wiring grow names now fault =
      Refuses (map cell cells) wiring grow (map string_bytes names) (feeds now) fault

-- what is asked of the network's inputs
pub record HaveInputPorts (wiring : Wiring) : Type 0 where
  pub told : length wiring.open_ins.items ≡ length wiring.ins.items
  pub sizes : HavePortSizes wiring.ins.items
