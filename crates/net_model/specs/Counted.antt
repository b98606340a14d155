-- The numbers of a run: what its report counts.
-- Trusted: part of what a promise means.
use Rattle.std.specs.Prelude.{◌≡◌, ℕ, suc, ◌-◌, ◌<◌, ◌||◌, ◌&&◌, nat_lt, Bool, true, false, List, [], ◌∷◌, length, slice_get, slice_index_or, Option, None, Some, if◌then◌else◌}
use Rattle.trace_text.specs.declared.line.Line.{Line}
use Rattle.trace_text.specs.declared.line.Line.TheVariants.{Header, Inst, Fire, Deliver, Grow, Quiet, Trap, Stall, Budget}
use Rattle.net_model.specs.declared.wiring.Counts.{Counts}
use Rattle.net_model.specs.declared.wiring.End.{End}
use Rattle.net_model.specs.declared.wiring.End.TheVariants.{Leaf as AtLeaf, Net as AtNet}
use Rattle.net_model.specs.declared.wiring.Link.{Link}
use Rattle.net_model.specs.Network.{NetPort, Network, kind_at, is_input}
use Rattle.net_model.specs.State.{Flow, State, untaken, sent_to}
use Rattle.net_model.specs.PortFile.{rest_of}
use Rattle.net_model.specs.Trace.{goes}
use Rattle.net_model.specs.Laws.{firings_shown}

-- how many lines are deliveries
abbrev pub deliveries_in : List Line → ℕ
deliveries_in [] = 0
deliveries_in (Deliver ∷ lines) = suc (deliveries_in lines)
deliveries_in (Fire i a ∷ lines) = deliveries_in lines
deliveries_in (Grow l capacity ∷ lines) = deliveries_in lines
deliveries_in (Quiet ∷ lines) = deliveries_in lines
deliveries_in (Trap i a c ∷ lines) = deliveries_in lines
deliveries_in (Stall i a l ∷ lines) = deliveries_in lines
deliveries_in (Budget ∷ lines) = deliveries_in lines
deliveries_in (Header n l g ∷ lines) = deliveries_in lines
deliveries_in (Inst k ∷ lines) = deliveries_in lines

abbrev pub arrived_of : Option Flow → ℕ
arrived_of None = 0
arrived_of (Some flow) = flow.arrived

-- how many tokens of link l have arrived
abbrev pub arrived_at : {X : Type 0} → State X → ℕ → ℕ
arrived_at s l = arrived_of (slice_get s.flows l)

-- a link holds less than its capacity
abbrev pub is_short : Option Flow → Bool
is_short None = false
is_short (Some flow) = nat_lt (untaken flow) flow.capacity

abbrev pub is_delivery : Line → Bool
is_delivery Deliver = true
is_delivery line = false

abbrev pub on_next : {X : Type 0} → Option (State X) → (State X → Bool) → Bool
on_next None test = false
on_next (Some next) test = test next

-- after some delivery among the lines link l held less than its capacity, so its feed had ended
abbrev pub was_short : {X : Type 0} → Network X → State X → List Line → ℕ → Bool
was_short net s [] l = false
was_short net s (line ∷ lines) l = on_next (goes net s line)
    (λ next. (is_delivery line && is_short (slice_get next.flows l)) || was_short net next lines l)

-- how many bytes at the end of an input's feed are no token
abbrev pub rest_at : List NetPort → List (List ℕ) → End → ℕ
rest_at ports inputs (AtLeaf inst port) = 0
rest_at ports inputs (AtNet port) = rest_of (kind_at ports port) (slice_index_or inputs port [])

-- how many tokens were sent to network output p
abbrev pub sent_count : {X : Type 0} → Network X → State X → ℕ → ℕ
sent_count net s p = length (sent_to p net.links s.flows)

-- The numbers count lines that lead from s to last, over these inputs.
pub record IsCounted {X : Type 0} (net : Network X) (inputs : List (List ℕ)) (s : State X)
    (lines : List Line) (last : State X) (counts : Counts) : Type 0 where
  pub firings : counts.firings ≡ length (firings_shown lines)
  pub rounds : counts.rounds ≡ deliveries_in lines
  pub links : length counts.arrived.items ≡ length net.links
  pub arrived : (l : ℕ) (link : Link) → slice_get net.links l ≡ Some link
      → slice_index_or counts.arrived.items l 0
      ≡ (if is_input link then arrived_at last l - arrived_at s l else 0)
  pub ends : length counts.rests.items ≡ length net.links
  -- a remainder counts only once its end was read
  pub rests : (l : ℕ) (link : Link) → slice_get net.links l ≡ Some link
      → slice_index_or counts.rests.items l 0
      ≡ (if was_short net s lines l then rest_at net.ins inputs link.from else 0)
  pub outs : length counts.sent.items ≡ length net.outs
  pub sent : (p : ℕ) → p < length net.outs
      → slice_index_or counts.sent.items p 0 ≡ sent_count net last p - sent_count net s p
