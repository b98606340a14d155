-- Determinacy of networks of stable actors (Kahn 1974), as statements.
-- Trusted: part of what a promise means.
use Rattle.std.specs.Prelude.{◌≡◌, ℕ, ◌<◌, ◌≤◌, ◌==◌, true, List, [], ◌∷◌, length, if◌then◌else◌, Some}
use Rattle.net_model.specs.Network.{Network}
use Rattle.net_model.specs.State.{State, start_of}
use Rattle.net_model.specs.Event.{Event, Fire, Deliver, Trap, run}
use Rattle.net_model.specs.Ends.{IsQuiet, IsSettled}
use Rattle.net_model.specs.Stable.{IsPrefix, AreStable}
use Rattle.net_model.specs.Wired.{IsWired}
use Rattle.net_model.specs.Laws.{AreLawful, SentGrows, sent_on_link, firings_in}

-- the actions that leaf i fires, in order
abbrev pub firings_of : ℕ → List Event → List ℕ
firings_of i [] = []
firings_of i (Fire j a ∷ events) = if i == j then a ∷ firings_of i events else firings_of i events
firings_of i (Deliver l k ∷ events) = firings_of i events
firings_of i (Trap j a c ∷ events) = firings_of i events

-- links lead to ports, each to one of its own, and every actor is lawful and stable
pub record IsDeterminate {X : Type 0} (net : Network X) : Type 0 where
  pub wired : IsWired net
  pub lawful : AreLawful net
  pub stable : AreStable net

-- events lead from the start over these inputs to a state
abbrev pub LeadsTo : {X : Type 0} → Network X → List (List ℕ) → List Event → State X → Type 0
LeadsTo net inputs events s = run net (start_of net inputs) events ≡ Some s

-- .. that is quiet
pub record IsQuietRun {X : Type 0} (net : Network X) (inputs : List (List ℕ)) (events : List Event)
    (q : State X) : Type 0 where
  pub leads : LeadsTo net inputs events q
  pub quiet : IsQuiet net q

-- each leaf's firings in any run begin those of a quiet run
abbrev pub FiringsArePrefixes : (X : Type 0) → Type 0
FiringsArePrefixes X = (net : Network X) (inputs : List (List ℕ)) (events all : List Event)
    (s q : State X) → IsDeterminate net
    → LeadsTo net inputs events s → IsQuietRun net inputs all q → (i : ℕ)
    → IsPrefix (firings_of i events) (firings_of i all)

-- what was sent on each link in any run begins what a quiet run sent there
abbrev pub SentArePrefixes : (X : Type 0) → Type 0
SentArePrefixes X = (net : Network X) (inputs : List (List ℕ)) (events all : List Event)
    (s q : State X) → IsDeterminate net
    → LeadsTo net inputs events s → IsQuietRun net inputs all q → SentGrows net s q

-- two quiet runs sent the same on each link
abbrev pub QuietRunsAgree : (X : Type 0) → Type 0
QuietRunsAgree X = (net : Network X) (inputs : List (List ℕ)) (all others : List Event)
    (q r : State X) → IsDeterminate net
    → IsQuietRun net inputs all q → IsQuietRun net inputs others r
    → (l : ℕ) → l < length net.links → sent_on_link q l ≡ sent_on_link r l

-- if a run traps, there is no quiet run
abbrev pub NoQuietRunBesides : (X : Type 0) → Type 0
NoQuietRunBesides X = (net : Network X) (inputs : List (List ℕ)) (events all : List Event)
    (s q : State X) → IsDeterminate net
    → LeadsTo net inputs events s → s.trapped ≡ true → IsQuietRun net inputs all q → ⊥

-- no run fires more often than a quiet one, and one that fires as often is quiet once all is delivered
pub record AsManyFirings {X : Type 0} (net : Network X) (s : State X) (events all : List Event) :
    Type 0 where
  pub most : length (firings_in events) ≤ length (firings_in all)
  pub all_made : length (firings_in events) ≡ length (firings_in all) → IsSettled net s
      → IsQuiet net s

abbrev pub AsManyFiringsAreAll : (X : Type 0) → Type 0
AsManyFiringsAreAll X = (net : Network X) (inputs : List (List ℕ)) (events all : List Event)
    (s q : State X) → IsDeterminate net
    → LeadsTo net inputs events s → IsQuietRun net inputs all q → AsManyFirings net s events all
