-- A token that came over an input link is taken back, and put back later.
-- Trusted: part of what a promise means.
use Rattle.std.specs.Prelude.{◌≡◌, ◌≢◌, ℕ, ◌+◌, ◌≤◌, ◌<◌, List, [], ◌∷◌, ℤ, length, drop, slice_get, slice_set, Option, None, Some}
use Rattle.net_model.specs.declared.wiring.Link.{Link}
use Rattle.net_model.specs.Event.{after_arrival}
use Rattle.net_model.specs.Network.{Network}
use Rattle.net_model.specs.Ready.{waiting_at}
use Rattle.net_model.specs.State.{Flow, State}
use Rattle.net_model.specs.Cell.{Cell}
use Rattle.net_state.specs.Held.{Held}
use Rattle.net_state.specs.Standing.{StandsIn}

-- how many tokens wait before the port to which a link leads
abbrev pub waits_at : {X : Type 0} → List (Cell X) → Option Link → ℕ
waits_at cells None = 0
waits_at cells (Some link) = length (waiting_at cells link.to)

abbrev pub waits_on : {X : Type 0} → Held (Cell X) → ℕ → ℕ
waits_on held l = waits_at held.cells (slice_get held.links l)

-- on each other link as many wait as before
abbrev pub WaitElsewhere : {X : Type 0} → ℕ → Held (Cell X) → Held (Cell X) → Type 0
WaitElsewhere l old new = (m : ℕ) → m ≢ l → waits_on new m ≡ waits_on old m

-- on no link more wait than before
abbrev pub NoMoreWait : {X : Type 0} → Held (Cell X) → Held (Cell X) → Type 0
NoMoreWait {X} old new = (l : ℕ) → waits_on new l ≤ waits_on old l

-- the state after the arrival of so many more tokens of link l
abbrev pub with_arrivals : {X : Type 0} → ℕ → State X → ℕ → Link → Flow → State X
with_arrivals n s l link flow =
    record s { flows = slice_set s.flows l (after_arrival n link flow) }

abbrev pub with_arrival : {X : Type 0} → State X → ℕ → Link → Flow → State X
with_arrival s l link flow = with_arrivals 1 s l link flow

-- The token of link l that arrived last was taken back: each state that stood but for its arrival stands.
abbrev pub TakesBack : {X : Type 0} → ℕ → ℤ → Held (Cell X) → Held (Cell X) → Type 0
TakesBack {X} l token old new = (net : Network X) (s : State X) (link : Link) (flow : Flow)
    → slice_get net.links l ≡ Some link → slice_get s.flows l ≡ Some flow
    → flow.taken ≤ flow.arrived → flow.arrived < length flow.sent
    → StandsIn net old (with_arrival s l link flow)
    → StandsIn net new s × (slice_get flow.sent flow.arrived ≡ Some token)

-- A token came over link l that was taken back: each state goes on whose next one there it is.
abbrev pub PutsBack : {X : Type 0} → ℕ → ℤ → Held (Cell X) → Held (Cell X) → Type 0
PutsBack {X} l token old new = (net : Network X) (s : State X) (link : Link) (flow : Flow)
    → slice_get net.links l ≡ Some link → slice_get s.flows l ≡ Some flow
    → slice_get flow.sent flow.arrived ≡ Some token
    → StandsIn net old s → StandsIn net new (with_arrival s l link flow)

-- Stacks of tokens.

-- the tokens of a stack, the one on top first, and then others; the one on top is the last of the list
abbrev pub down : List ℤ → List ℤ → List ℤ
down [] others = others
down (token ∷ tokens) others = down tokens (token ∷ others)

-- So many tokens of link l that arrived last were taken back, and put on a stack: each state that stood but for their
-- arrival stands, and what hasn't arrived on the link is now what the stack has, and then what it was before.
abbrev pub TakesAll : {X : Type 0} → ℕ → ℕ → List ℤ → List ℤ → Held (Cell X) → Held (Cell X) → Type 0
TakesAll {X} l n before after old new = (net : Network X) (s : State X) (link : Link) (flow : Flow)
    → slice_get net.links l ≡ Some link → slice_get s.flows l ≡ Some flow
    → flow.taken ≤ flow.arrived → flow.arrived + n ≤ length flow.sent
    → StandsIn net old (with_arrivals n s l link flow)
    → StandsIn net new s × ((others : List ℤ) → drop (flow.arrived + n) flow.sent ≡ down before others
    → drop flow.arrived flow.sent ≡ down after others)

-- The tokens of a stack came over link l again: each state goes on in which they are the next ones there.
abbrev pub PutsAll : {X : Type 0} → ℕ → List ℤ → Held (Cell X) → Held (Cell X) → Type 0
PutsAll {X} l stack old new = (net : Network X) (s : State X) (link : Link) (flow : Flow) (others : List ℤ)
    → slice_get net.links l ≡ Some link → slice_get s.flows l ≡ Some flow
    → drop flow.arrived flow.sent ≡ down stack others
    → StandsIn net old s → StandsIn net new (with_arrivals (length stack) s l link flow)
