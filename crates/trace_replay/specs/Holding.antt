-- Tokens of input links that were taken back, until they arrive.
-- Trusted are `tokens_of_stacks`, `stacked`, `IsBehind`, `AreFedBehind` and `StandsHeld`: part of what a promise means.
use Rattle.std.specs.Prelude.{◌≡◌, ℕ, ◌+◌, ◌^◌, ◌≤◌, ◌<◌, true, false, List, [], ◌∷◌, ℤ, length, map, drop, slice_get, slice_set, slice_index_or, Option, Some, if◌then◌else◌}
use Rattle.rvc_io.specs.Feeds.{Inputs}
use Rattle.port_files.specs.Coming.{Reading}
use Rattle.token_ring.specs.Queue.{Queue}
use Rattle.net_model.specs.declared.wiring.Link.{Link}
use Rattle.net_model.specs.Network.{Network, is_input}
use Rattle.net_model.specs.State.{Flow, State}
use Rattle.net_model.specs.Event.{after_arrival}
use Rattle.net_model.specs.Cell.{Cell}
use Rattle.net_model.specs.Wired.{IsWired}
use Rattle.net_state.specs.declared.filling.Filled.{Filled}
use Rattle.net_state.specs.Held.{Held}
use Rattle.net_state.specs.Moving.{SameActors, SameMarks}
use Rattle.net_state.specs.Standing.{StandsIn, StandsSince, unarrived}
use Rattle.net_state.specs.TakingBack.{WaitElsewhere, down, waits_on}
use Rattle.net_state.specs.Working.{IsAtRest}
use Rattle.network_runner.specs.Delivering.{IsDelivered}
use Rattle.round_runner.specs.Running.{AreFedBy}
use Rattle.trace_replay.specs.declared.holding.TakenBack.{TakenBack}

-- what each stack has; the one on top is the last
abbrev pub tokens_of_stacks : List Queue → List (List ℤ)
tokens_of_stacks stacks = map (λ stack. stack.tokens) stacks

-- the tokens that were taken back from each link
abbrev pub stacked : TakenBack → List (List ℤ)
stacked taken = tokens_of_stacks taken.stacks.items

-- On each input link what hasn't arrived is what its stack has, the one on top first, and then what hasn't `later`.
pub record IsBehind {X : Type 0} (net : Network X) (stacks : List (List ℤ)) (s later : State X) :
    Type 0 where
  pub each : (l : ℕ) (link : Link) → slice_get net.links l ≡ Some link → is_input link ≡ true
      → unarrived (slice_get s.flows l)
      ≡ down (slice_index_or stacks l []) (unarrived (slice_get later.flows l))

-- What is to come on each input link is what its stack has, and then what its feed has.
pub record AreFedBehind {X : Type 0} (net : Network X) (inputs : List (List ℕ)) (s : State X)
    (stacks : List (List ℤ)) (readings : List (Option Reading)) (feeds : Inputs) : Type 0 where
  pub later : State X
  pub behind : IsBehind net stacks s later
  pub fed : AreFedBy net inputs later readings feeds

-- The state stands in what is held, it was `opened` by the last delivery, and what is to come is what stacks and feeds
-- have. `inputs` are the bytes of the network's inputs from which the run began.
pub record StandsHeld {X : Type 0} (net : Network X) (inputs : List (List ℕ)) (held : Held (Cell X))
    (stacks : List (List ℤ)) (readings : List (Option Reading)) (feeds : Inputs)
    (opened s : State X) : Type 0 where
  pub stands : StandsSince net held opened s
  pub fed : AreFedBehind net inputs s stacks readings feeds

-- Arrivals ahead of a delivery.

-- so many more tokens have arrived, if the link begins outside
abbrev pub ahead_by : Link → ℕ → Flow → Flow
ahead_by link n flow = if is_input link then after_arrival n link flow else flow

-- the same of the first links, for as many as there are counts
abbrev pub each_ahead : List ℕ → List Link → List Flow → List Flow
each_ahead [] links flows = flows
each_ahead (n ∷ counts) [] flows = flows
each_ahead (n ∷ counts) (link ∷ links) [] = []
each_ahead (n ∷ counts) (link ∷ links) (flow ∷ flows) =
    ahead_by link n flow ∷ each_ahead counts links flows

abbrev pub ahead : {X : Type 0} → Network X → List ℕ → State X → State X
ahead net counts s = record s { flows = each_ahead counts net.links s.flows }

-- .. and of one link
abbrev pub ahead_on : {X : Type 0} → ℕ → ℕ → Link → Flow → State X → State X
ahead_on l n link flow s = record s { flows = slice_set s.flows l (ahead_by link n flow) }

-- What the code keeps.

-- no stack has anything
abbrev pub AreEmpty : List (List ℤ) → Type 0
AreEmpty stacks = (l : ℕ) → slice_index_or stacks l [] ≡ []

-- how many tokens each stack has, and how many it may have
abbrev pub counts_of : List Queue → List ℕ
counts_of stacks = map (λ stack. length stack.tokens) stacks

abbrev pub rooms_of : List Queue → List ℕ
rooms_of stacks = map (λ stack. stack.capacity) stacks

-- the stack of a link fits what is held
pub record FitsStack {X : Type 0} (held : Held (Cell X)) (l : ℕ) (link : Link) (stack : Queue) :
    Type 0 where
  -- it can hold what an input link can
  pub holds : is_input link ≡ true → slice_index_or held.capacities l 0 ≤ stack.capacity
  -- what it has fits on the link beside what waits there
  pub room : 1 ≤ length stack.tokens
      → waits_on held l + length stack.tokens ≤ slice_index_or held.capacities l 0
  -- it is empty if the link begins inside
  pub outside : is_input link ≡ false → stack.tokens ≡ []

-- there is a stack for each link
pub record FitStacks {X : Type 0} (held : Held (Cell X)) (stacks : List Queue) : Type 0 where
  pub count : length stacks ≡ length held.links
  pub each : (l : ℕ) (link : Link) (stack : Queue) → slice_get held.links l ≡ Some link
      → slice_get stacks l ≡ Some stack → FitsStack held l link stack

pub record FitTaken {X : Type 0} (held : Held (Cell X)) (taken : TakenBack) : Type 0 where
  pub stacks : FitStacks held taken.stacks.items
  pub put : length taken.put.items ≡ length held.links
  pub none : taken.any ≡ false → AreEmpty (stacked taken)

-- for each of these links that begins outside there is room for what it can hold
abbrev pub HaveRooms : List Link → List ℕ → Type 0
HaveRooms links rooms = (l : ℕ) (link : Link) → slice_get links l ≡ Some link → is_input link ≡ true
    → link.capacity ≤ slice_index_or rooms l 0

-- stacks as they are made for these links
pub record AreFresh (links : List Link) (taken : TakenBack) : Type 0 where
  pub count : length taken.stacks.items ≡ length links
  pub empty : AreEmpty (stacked taken)
  pub rooms : HaveRooms links (rooms_of taken.stacks.items)
  pub put : length taken.put.items ≡ length links

-- all but what waits before the ports stays
pub record KeepsRest {X : Type 0} (old new : Held (Cell X)) : Type 0 where
  pub actors : SameActors old.cells new.cells
  pub marks : SameMarks old.cells new.cells
  pub links : new.links ≡ old.links
  pub capacities : new.capacities ≡ old.capacities
  pub waited : new.waited ≡ old.waited

-- What one call does.

-- the tokens of a stack were put back on link l: each state goes on whose next ones there they are
pub record PutsOne {X : Type 0} (l : ℕ) (stack : List ℤ) (old new : Held (Cell X)) : Type 0 where
  pub states : (net : Network X) (s : State X) (link : Link) (flow : Flow) (others : List ℤ)
      → slice_get net.links l ≡ Some link → slice_get s.flows l ≡ Some flow
      → (is_input link ≡ true → drop flow.arrived flow.sent ≡ down stack others)
      → StandsIn net old s → StandsIn net new (ahead_on l (length stack) link flow s)
  pub elsewhere : WaitElsewhere l old new
  pub keeps : KeepsRest old new

-- .. and those of each stack on its link
pub record PutsEach {X : Type 0} (stacks : List Queue) (old new : Held (Cell X)) : Type 0 where
  pub states : (net : Network X) (s later : State X) → StandsIn net old s
      → IsBehind net (tokens_of_stacks stacks) s later
      → StandsIn net new (ahead net (counts_of stacks) s)
  pub keeps : KeepsRest old new

-- what was put back is counted with what came, if 32 bits can tell how many these are
pub record CountsOnePut (n : ℕ) (before after : Filled) : Type 0 where
  pub rest : after.rest ≡ before.rest
  pub tokens : before.tokens + n < 2 ^ 32 → after.tokens ≡ before.tokens + n

pub record CountsPut (put : List ℕ) (old new : List Filled) : Type 0 where
  pub as_many : length new ≡ length old
  pub each : (l : ℕ) (before after : Filled) → slice_get old l ≡ Some before
      → slice_get new l ≡ Some after → CountsOnePut (slice_index_or put l 0) before after

-- A delivery behind what stacks have: each state of a wired network goes on by it, and the network is at rest. What came
-- over a link is told with what its stack had.
pub record DeliversHeld {X : Type 0} (old new : Held (Cell X)) (stacks : List (List ℤ))
    (before after : List (Option Reading)) (feeds_old feeds_new : Inputs)
    (came : List Filled) : Type 0 where
  pub states : (net : Network X) (inputs : List (List ℕ)) (s : State X) → StandsIn net old s
      → IsWired net → AreFedBehind net inputs s stacks before feeds_old
      → IsDelivered net inputs s new after feeds_new came
  pub rests : IsAtRest new

-- The tokens that came last over link l were taken back, so many: each state stands that stood but for their arrival, and
-- they come next there.
pub record TakesOne {X : Type 0} (l n : ℕ) (link : Link) (old new : Held (Cell X)) (stack : List ℤ) :
    Type 0 where
  pub states : (net : Network X) (s : State X) (flow : Flow) → IsWired net
      → slice_get net.links l ≡ Some link → slice_get s.flows l ≡ Some flow
      → flow.taken ≤ flow.arrived → (is_input link ≡ true → flow.arrived + n ≤ length flow.sent)
      → StandsIn net old (ahead_on l n link flow s)
      → StandsIn net new s × (is_input link ≡ true
      → drop flow.arrived flow.sent ≡ down stack (drop (flow.arrived + n) flow.sent))
  pub rests : IsAtRest old → IsAtRest new
  pub elsewhere : WaitElsewhere l old new
  pub keeps : KeepsRest old new

-- so many more tokens may have arrived over input links than in the state s
pub record MayBeAhead {X : Type 0} (net : Network X) (counts : List ℕ) (s : State X) : Type 0 where
  pub ordered : (l : ℕ) (link : Link) (flow : Flow) → slice_get net.links l ≡ Some link
      → slice_get s.flows l ≡ Some flow → flow.taken ≤ flow.arrived
  pub sent : (l : ℕ) (link : Link) (flow : Flow) → slice_get net.links l ≡ Some link
      → slice_get s.flows l ≡ Some flow → is_input link ≡ true
      → flow.arrived + slice_index_or counts l 0 ≤ length flow.sent

-- these come next in the state s on the input links from link n on
abbrev pub ComeNext : {X : Type 0} → ℕ → Network X → List ℕ → State X → List (List ℤ) → Type 0
ComeNext n net counts s stacks = (l : ℕ) (link : Link) (flow : Flow) → n ≤ l
    → slice_get net.links l ≡ Some link → slice_get s.flows l ≡ Some flow → is_input link ≡ true
    → drop flow.arrived flow.sent
    ≡ down (slice_index_or stacks l []) (drop (flow.arrived + slice_index_or counts l 0) flow.sent)

-- .. and those of each input link, onto its stack
pub record TakesEach {X : Type 0} (counts : List ℕ) (old new : Held (Cell X)) (stacks : List Queue) :
    Type 0 where
  pub states : (net : Network X) (s : State X) → IsWired net → MayBeAhead net counts s
      → StandsIn net old (ahead net counts s)
      → StandsIn net new s × ComeNext 0 net counts s (tokens_of_stacks stacks)
  pub rests : IsAtRest old → IsAtRest new
  pub keeps : KeepsRest old new

-- how many tokens came over each link
abbrev pub came_counts : List Filled → List ℕ
came_counts came = map (λ filled. filled.tokens) came
