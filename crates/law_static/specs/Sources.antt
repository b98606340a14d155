-- Networks of the static actors of sources, and their periods (Lee and Messerschmitt, Synchronous Data Flow, 1987).
-- Trusted: part of what a promise means.
use Rattle.std.specs.Prelude.{◌≡◌, ◌⊎◌, ℕ, List, slice_get, slice_index, Some}
use Rattle.rvc_base.specs.Behaviour.{Behaviour}
use Rattle.cal_model.specs.Actor.{Actor}
use Rattle.cal_model.specs.ActorState.{IsActorState}
use Rattle.cal_model.specs.Firing.{behaviour}
use Rattle.cal_model.specs.Selection.{State, Priorities}
use Rattle.cal_model.specs.Sound.{IsSound}
use Rattle.static_rates.specs.Static.{IsStatic, AreNeeds, AreGives}
use Rattle.net_model.specs.Network.{Leaf, Network}
use Rattle.net_model.specs.State.{State as NetState, start_of}
use Rattle.net_model.specs.Wired.{IsWired}
use Rattle.law_period.specs.Static.{NetRates, IsPeriodOf}
use Rattle.law_period.specs.Runs.{IsAtRest, HasEnoughInput, Completes, TrapsOnTheWay}

-- this is the behaviour of a sound and static actor, which takes and gives these numbers of tokens on its ports
pub record IsOfStatic (b : Behaviour State) (actor : Actor) (need give : List ℕ) : Type 0 where
  pub priorities : Priorities actor
  pub is : b ≡ behaviour actor priorities
  pub sound : IsSound actor
  pub static : IsStatic actor
  pub needs : AreNeeds actor need
  pub gives : AreGives actor give

-- .. as that of each leaf is, by the number of the leaf
abbrev pub AreOfStatic : Network State → (ℕ → Actor) → (ℕ → List ℕ) → (ℕ → List ℕ) → Type 0
AreOfStatic net actors needs gives = (i : ℕ) (leaf : Leaf State)
    → slice_get net.leaves i ≡ Some leaf
    → IsOfStatic leaf.behaviour (actors i) (needs i) (gives i)

-- these numbers as the rates of the network, and the states in which its leaves can be
abbrev pub rates_of : (ℕ → List ℕ) → (ℕ → List ℕ) → NetRates
rates_of needs gives = record {
  need = λ i port. slice_index (needs i) port;
  give = λ i port. slice_index (gives i) port;
}

abbrev pub states_of : (ℕ → Actor) → ℕ → State → Type 0
states_of actors i state = IsActorState (actors i) state

-- The laws.

-- the start of a run over files is between periods
abbrev pub SourcesStartAtRest : Type 0
SourcesStartAtRest = (net : Network State) (actors : ℕ → Actor) (needs gives : ℕ → List ℕ)
    (inputs : List (List ℕ)) → AreOfStatic net actors needs gives
    → IsAtRest net (states_of actors) (start_of net inputs)

-- from a state between periods, with the input of one, a period can be run whole, or up to a trap
abbrev pub SourcePeriodsAreRuns : Type 0
SourcePeriodsAreRuns = (net : Network State) (actors : ℕ → Actor) (needs gives : ℕ → List ℕ)
    (firings : ℕ → ℕ) (order : List ℕ) (s : NetState State) → IsWired net
    → AreOfStatic net actors needs gives → IsPeriodOf net (rates_of needs gives) firings order
    → IsAtRest net (states_of actors) s → HasEnoughInput net (rates_of needs gives) firings s
    → Completes net (states_of actors) (rates_of needs gives) firings order s
    ⊎ TrapsOnTheWay net (rates_of needs gives) order s
