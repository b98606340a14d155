-- The trace language: which lines play, which keep the capacities of the links, and their text.
-- `grow` is the greatest capacity that a link may grow to at a stall; it is 0 if none may grow.
-- Trusted: part of what a promise means.
use Rattle.std.specs.Prelude.{◌≡◌, ℕ, ◌+◌, ◌-◌, ◌≤◌, ◌==◌, false, List, [], ◌∷◌, ◌++◌, pos, min, length, replicate, slice_get, slice_set, Option, None, Some, if◌then◌else◌, codes, flat_map}
use Rattle.rvc_base.specs.Behaviour.{Effect, Fires, TrapsInGuard, TrapsInBody}
use Rattle.trace_text.specs.declared.line.Line.{Line}
use Rattle.trace_text.specs.declared.line.Line.TheVariants.{Header, Inst, Fire, Deliver, Grow, Quiet, Trap, Stall, Budget}
use Rattle.trace_text.specs.Text.{line_text, line_feed}
use Rattle.net_model.specs.declared.wiring.End.{End}
use Rattle.net_model.specs.declared.wiring.End.TheVariants.{Leaf as AtLeaf, Net as AtNet}
use Rattle.net_model.specs.declared.wiring.Link.{Link}
use Rattle.net_model.specs.Network.{Leaf, Network, kind_at, is_input}
use Rattle.net_model.specs.State.{Flow, State, untaken, effect_at, give_of, start_of, sent_to}
use Rattle.net_model.specs.PortFile.{all_encoded}
use Rattle.net_model.specs.Event as event
use Rattle.net_model.specs.Event.{each_flow, after_arrival, happens, and_then}
use Rattle.net_model.specs.Ends.{IsQuiet, IsStuck, Grows, IsBetween}

-- how many tokens of a link arrive at a delivery: all on inner and output links; on an input link until it
-- holds its capacity or all have arrived
abbrev pub arrivals : Link → Flow → ℕ
arrivals link flow = if is_input link
    then min (flow.capacity - untaken flow) (length flow.sent - flow.arrived)
    else length flow.sent - flow.arrived

abbrev pub delivered : Link → Flow → Flow
delivered link flow = after_arrival (arrivals link flow) link flow

-- the state after a delivery
abbrev pub after_delivery : {X : Type 0} → Network X → State X → State X
after_delivery net s = record s { flows = each_flow delivered net.links s.flows }

-- the state in which link l has this capacity
abbrev pub grown : {X : Type 0} → State X → ℕ → ℕ → Option Flow → Option (State X)
grown s l capacity (Some flow) =
    Some (record s { flows = slice_set s.flows l (record flow { capacity = capacity }) })
grown s l capacity None = None

-- The state after a line, or none if the line may not come. An end line but that of a trap changes
-- nothing. What a line says of the state is `LineIsTrue`.
abbrev pub goes : {X : Type 0} → Network X → State X → Line → Option (State X)
goes net s (Fire i a) = happens net s (event.Fire i a)
goes net s Deliver = if s.trapped then None else Some (after_delivery net s)
goes net s (Trap i a c) = happens net s (event.Trap i a c)
goes net s (Grow l capacity) = grown s l capacity (slice_get s.flows l)
goes net s Quiet = Some s
goes net s (Stall i a l) = Some s
goes net s Budget = Some s
goes net s (Header n l g) = None
goes net s (Inst k) = None

-- the state after lines
abbrev pub played : {X : Type 0} → Network X → State X → List Line → Option (State X)
played net s [] = Some s
played net s (line ∷ lines) = and_then (goes net s line) (λ next. played net next lines)

-- what a line says of the state before it is true, and an end line is last
abbrev pub LineIsTrue : {X : Type 0} → Network X → ℕ → State X → Line → List Line → Type 0
LineIsTrue net grow s (Grow l capacity) after = Grows net grow s l capacity
LineIsTrue net grow s Quiet after = IsQuiet net s × (after ≡ [])
LineIsTrue net grow s (Stall i a l) after = IsStuck net grow s i a l × (after ≡ [])
LineIsTrue net grow s Budget after = IsBetween net grow s × (after ≡ [])
LineIsTrue net grow s (Trap i a c) after = after ≡ []
LineIsTrue net grow s (Fire i a) after = Unit {0}
LineIsTrue net grow s Deliver after = Unit {0}
LineIsTrue net grow s (Header n l g) after = ⊥
LineIsTrue net grow s (Inst k) after = ⊥

abbrev pub OnNext : {X : Type 0} → Option (State X) → (State X → Type 0) → Type 0
OnNext None P = ⊥
OnNext (Some next) P = P next

-- The lines lead from s to last, each permitted and true where it stands.
abbrev pub PlaysFrom : {X : Type 0} → Network X → ℕ → State X → List Line → State X → Type 0
PlaysFrom net grow s [] last = s ≡ last
PlaysFrom net grow s (line ∷ lines) last =
    LineIsTrue net grow s line lines
    × OnNext (goes net s line) (λ next. PlaysFrom net grow next lines last)

-- the same from the start of a run over files
abbrev pub Plays : {X : Type 0} → Network X → ℕ → List (List ℕ) → List Line → State X → Type 0
Plays net grow inputs lines last = PlaysFrom net grow (start_of net inputs) lines last

-- what counts against a link's capacity: the tokens that were untaken at the last delivery, when the flow was
-- `opened`, and those sent since
abbrev pub held_since : Flow → Flow → ℕ
held_since opened flow = untaken opened + (length flow.sent - length opened.sent)

-- on each inner and output link this is at most the present capacity
abbrev pub FitFlows : List Link → List Flow → List Flow → Type 0
FitFlows [] opened now = Unit {0}
FitFlows (link ∷ links) [] now = Unit {0}
FitFlows (link ∷ links) (before ∷ opened) [] = Unit {0}
FitFlows (link ∷ links) (before ∷ opened) (flow ∷ now) =
    (is_input link ≡ false → held_since before flow ≤ flow.capacity) × FitFlows links opened now

-- a flow as if action a of leaf i had sent what it gives
abbrev pub with_given : ℕ → (ℕ → ℕ) → Link → End → Flow → Flow
with_given i gives link (AtLeaf inst port) flow =
    record flow { sent = flow.sent ++ (if i == inst.0 then replicate (gives port) (pos 0) else []) }
with_given i gives link (AtNet port) flow = flow

-- the flows that a line counts with: a trap in the body of an action counts as sending what it gives
abbrev pub counted_flows : {X : Type 0} → Network X → State X → ℕ → ℕ → Option (Effect X)
    → List Flow
counted_flows net s i a (Some (TrapsInBody c)) =
    each_flow (λ link flow. with_given i (give_of (slice_get net.leaves i) a) link link.from flow)
    net.links s.flows
counted_flows net s i a (Some (TrapsInGuard c)) = s.flows
counted_flows net s i a (Some (Fires x sent)) = s.flows
counted_flows net s i a None = s.flows

abbrev pub TrapFits : {X : Type 0} → Network X → State X → State X → Line → Type 0
TrapFits net opened s (Trap i a c) =
    FitFlows net.links opened.flows (counted_flows net s i a (effect_at net s i a))
TrapFits net opened s (Fire i a) = Unit {0}
TrapFits net opened s Deliver = Unit {0}
TrapFits net opened s (Grow l capacity) = Unit {0}
TrapFits net opened s Quiet = Unit {0}
TrapFits net opened s (Stall i a l) = Unit {0}
TrapFits net opened s Budget = Unit {0}
TrapFits net opened s (Header n l g) = Unit {0}
TrapFits net opened s (Inst k) = Unit {0}

-- the state after the last delivery, once a line has led to the next state
abbrev pub opened_by : {X : Type 0} → Line → State X → State X → State X
opened_by Deliver opened next = next
opened_by (Fire i a) opened next = opened
opened_by (Trap i a c) opened next = opened
opened_by (Grow l capacity) opened next = opened
opened_by Quiet opened next = opened
opened_by (Stall i a l) opened next = opened
opened_by Budget opened next = opened
opened_by (Header n l g) opened next = opened
opened_by (Inst k) opened next = opened

-- At each moment the links hold at most their capacities. `opened` is the state after the last delivery.
abbrev pub KeepsSince : {X : Type 0} → Network X → State X → State X → List Line → Type 0
KeepsSince net opened s [] = FitFlows net.links opened.flows s.flows
KeepsSince net opened s (line ∷ lines) =
    FitFlows net.links opened.flows s.flows × TrapFits net opened s line
    × OnNext (goes net s line) (λ next. KeepsSince net (opened_by line opened next) next lines)

-- the same from a state in which no line was written yet
abbrev pub KeepsFrom : {X : Type 0} → Network X → State X → List Line → Type 0
KeepsFrom net s lines = KeepsSince net s s lines

-- the same from the start of a run over files
abbrev pub KeepsCapacities : {X : Type 0} → Network X → List (List ℕ) → List Line → Type 0
KeepsCapacities net inputs lines = KeepsFrom net (start_of net inputs) lines

-- the `i` lines of leaves, numbered from k
abbrev pub instance_lines : {X : Type 0} → ℕ → List (Leaf X) → List ℕ
instance_lines k [] = []
instance_lines k (leaf ∷ leaves) =
    line_text (Inst k) ++ leaf.path ++ codes " " ++ leaf.class ++ line_feed ++ instance_lines (k + 1) leaves

-- what stands before the first event
abbrev pub head_text : {X : Type 0} → Network X → ℕ → List ℕ
head_text net grow = line_text (Header (length net.leaves) (length net.links) grow)
    ++ instance_lines 0 net.leaves

-- the text of a trace with these event lines: of version 1 if no link may grow, else of version 2
abbrev pub text : {X : Type 0} → Network X → ℕ → List Line → List ℕ
text net grow lines = head_text net grow ++ flat_map line_text lines

-- the bytes of network output p
abbrev pub bytes_out : {X : Type 0} → Network X → State X → ℕ → List ℕ
bytes_out net s p = all_encoded (kind_at net.outs p) (sent_to p net.links s.flows)
