-- The numbers of a run, counted line by line.
-- Not trusted: no promise is read with it.
use Rattle.std.specs.Prelude.{◌≡◌, ℕ, ◌+◌, ◌-◌, ◌<◌, ◌≤◌, List, [], ◌∷◌, ◌++◌, length, slice_get, slice_index_or, Some, if◌then◌else◌}
use Rattle.trace_text.specs.declared.line.Line.{Line}
use Rattle.net_model.specs.declared.wiring.Counts.{Counts}
use Rattle.net_model.specs.declared.wiring.Link.{Link}
use Rattle.net_model.specs.Network.{Network, is_input}
use Rattle.net_model.specs.State.{State}
use Rattle.net_model.specs.Cell.{Cell}
use Rattle.net_model.specs.Counted.{IsCounted, arrived_at, deliveries_in, rest_at, sent_count, was_short}
use Rattle.net_model.specs.Laws.{firings_shown}
use Rattle.net_model.specs.PacingLaws.{CanBegin}
use Rattle.net_model.specs.Trace.{played}
use Rattle.net_state.specs.declared.filling.Filled.{Filled}
use Rattle.network_runner.specs.Counting.{IsToPort, arrived_with, rests_with, sent_with}
use Rattle.network_runner.specs.Stepping.{left_to}
use Rattle.trace_replay.specs.Judging.{max_trace_bytes}

-- The numbers count lines that lead from s to last, but for what was sent to outputs and hasn't left, which is still
-- to be counted.
pub record IsCountedTo {X : Type 0} (net : Network X) (inputs : List (List ℕ)) (s : State X)
    (lines : List Line) (last : State X) (counts : Counts) : Type 0 where
  pub firings : counts.firings ≡ length (firings_shown lines)
  pub rounds : counts.rounds ≡ deliveries_in lines
  pub links : length counts.arrived.items ≡ length net.links
  pub arrived : (l : ℕ) (link : Link) → slice_get net.links l ≡ Some link
      → slice_index_or counts.arrived.items l 0
      ≡ (if is_input link then arrived_at last l - arrived_at s l else 0)
  pub ends : length counts.rests.items ≡ length net.links
  pub rests : (l : ℕ) (link : Link) → slice_get net.links l ≡ Some link
      → slice_index_or counts.rests.items l 0
      ≡ (if was_short net s lines l then rest_at net.ins inputs link.from else 0)
  pub outs : length counts.sent.items ≡ length net.outs
  pub sent : (p : ℕ) → p < length net.outs
      → slice_index_or counts.sent.items p 0 + length (left_to p net.links last.flows)
      ≡ sent_count net last p - sent_count net s p

-- if the numbers counted lines that lead to the state s, they count the next line too now
abbrev pub CountsOn : {X : Type 0} → Network X → List (List ℕ) → State X → Line → State X → Counts
    → Counts → Type 0
CountsOn {X} net inputs s line next old new = (first : State X) (before : List Line)
    → CanBegin net first → played net first before ≡ Some s
    → IsCountedTo net inputs first before s old
    → IsCountedTo net inputs first (before ++ line ∷ []) next new

-- .. and all that was sent
abbrev pub CountsAll : {X : Type 0} → Network X → List (List ℕ) → State X → Line → State X → Counts
    → Counts → Type 0
CountsAll {X} net inputs s line next old new = (first : State X) (before : List Line)
    → CanBegin net first → played net first before ≡ Some s
    → IsCountedTo net inputs first before s old
    → IsCounted net inputs first (before ++ line ∷ []) next new

-- there is a number for each link, and for each output to which a link leads
pub record FitLinks (links : List Link) (counts : Counts) : Type 0 where
  pub arrived : length counts.arrived.items ≡ length links
  pub rests : length counts.rests.items ≡ length links
  pub ports : IsToPort links (length counts.sent.items)

-- no more firings and deliveries were counted than lines that a trace may have
pub record AreFewCounted (counts : Counts) : Type 0 where
  pub firings : counts.firings ≤ max_trace_bytes
  pub rounds : counts.rounds ≤ max_trace_bytes

-- What one call counts.

-- a firing
pub record CountsFiring (old new : Counts) : Type 0 where
  pub firings : new.firings ≡ old.firings + 1
  pub rounds : new.rounds ≡ old.rounds
  pub arrived : new.arrived ≡ old.arrived
  pub rests : new.rests ≡ old.rests
  pub sent : new.sent ≡ old.sent

-- a delivery, over which so many tokens came on each link
pub record CountsDelivery (came : List Filled) (old new : Counts) : Type 0 where
  pub firings : new.firings ≡ old.firings
  pub rounds : new.rounds ≡ old.rounds + 1
  pub arrived : new.arrived.items ≡ arrived_with came old.arrived.items
  pub rests : new.rests.items ≡ rests_with came old.rests.items
  pub sent : new.sent ≡ old.sent

-- what was sent to outputs and hasn't left
pub record CatchesUp {X : Type 0} (cells : List (Cell X)) (links : List Link) (old new : Counts) :
    Type 0 where
  pub firings : new.firings ≡ old.firings
  pub rounds : new.rounds ≡ old.rounds
  pub arrived : new.arrived ≡ old.arrived
  pub rests : new.rests ≡ old.rests
  pub sent : new.sent.items ≡ sent_with cells links old.sent.items
