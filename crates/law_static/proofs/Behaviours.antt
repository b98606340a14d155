-- The behaviours of static actors are static in the states of the actors.
use Rattle.std.proofs.Common.{◌⊎◌, ℕ, List, sym, subst}
use Rattle.std.specs.Prelude.{slice_index}
use Rattle.cal_model.specs.Actor.{Actor}
use Rattle.cal_model.specs.ActorState.{IsActorState}
use Rattle.cal_model.specs.Firing.{behaviour}
use Rattle.cal_model.specs.Laws.{BehaviourIsLawful, BehaviourKeepsStates, StartIsState}
use Rattle.cal_model.specs.Selection.{State, Priorities}
use Rattle.cal_model.specs.Sound.{IsSound}
use Rattle.static_rates.specs.Static.{IsStatic, AreNeeds, AreGives}
use Rattle.static_rates.specs.Laws.{StaticActorsFire}
use Rattle.rvc_base.specs.Lawful.{IsLawful}
use Rattle.net_model.specs.Network.{Network}
use Rattle.net_model.specs.State.{State as NetState, start_of}
use Rattle.net_model.specs.Wired.{IsWired}
use Rattle.net_model.specs.Laws.{AreLawful}
use Rattle.law_period.specs.Static.{IsStatic as IsStaticIn, AreStatic, IsPeriodOf}
use Rattle.law_period.specs.Runs.{IsAtRest, HasEnoughInput, Completes, TrapsOnTheWay}
use Rattle.law_period.proofs.WholePeriod.{period_runs, starts_at_rest}
use Rattle.law_static.specs.Sources.{AreOfStatic, rates_of, states_of}

module _ (fire : StaticActorsFire) (keep : BehaviourKeepsStates) (begin : StartIsState) (lawful : BehaviourIsLawful) where
  static_behaviour : (actor : Actor) (p : Priorities actor) (need give : List ℕ) → IsSound actor → IsStatic actor → AreNeeds actor need → AreGives actor give
      → IsStaticIn (behaviour actor p) (λ state. IsActorState actor state) (λ port. slice_index need port) (λ port. slice_index give port)
  static_behaviour actor p need give sound static needs gives = record {
    start = begin actor sound;
    fires = λ state tokens inside enough.
        let found = fire actor p state tokens need static needs inside enough in (found.0, found.2);
    needs = λ a port low there. sym (needs.1 a port low there);
    gives = λ a port low there. sym (gives.1 a port low there);
    keeps = λ state next tokens sent a inside has. keep actor p state next tokens sent a sound has;
  }

  module _ (net : Network State) (actors : ℕ → Actor) (needs gives : ℕ → List ℕ) (of : AreOfStatic net actors needs gives) where
    are_static : AreStatic net (states_of actors) (rates_of needs gives)
    are_static i leaf at =
        let one = of i leaf at in
        subst (λ b. IsStaticIn b (λ state. IsActorState (actors i) state) (λ port. slice_index (needs i) port) (λ port. slice_index (gives i) port)) (sym one.is)
        (static_behaviour (actors i) one.priorities (needs i) (gives i) one.sound one.static one.needs one.gives)

    are_lawful : AreLawful net
    are_lawful i leaf at =
        let one = of i leaf at in subst (λ b. IsLawful b) (sym one.is) (lawful (actors i) one.priorities one.sound)

    pub sources_start : (inputs : List (List ℕ)) → IsAtRest net (states_of actors) (start_of net inputs)
    sources_start inputs = starts_at_rest net (states_of actors) (rates_of needs gives) inputs are_static

    pub sources_run : (firings : ℕ → ℕ) (order : List ℕ) (s : NetState State) → IsWired net → IsPeriodOf net (rates_of needs gives) firings order
        → IsAtRest net (states_of actors) s → HasEnoughInput net (rates_of needs gives) firings s
        → Completes net (states_of actors) (rates_of needs gives) firings order s ⊎ TrapsOnTheWay net (rates_of needs gives) order s
    sources_run firings order s wired period rest enough =
        period_runs net (states_of actors) (rates_of needs gives) firings order s wired are_lawful are_static period rest enough
