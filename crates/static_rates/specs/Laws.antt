-- What holds of all static actors.
-- Trusted: part of what a promise means.
use Rattle.std.specs.Prelude.{◌≡◌, ℕ, ℤ, ◌<◌, ◌≤◌, List, length, slice_index, Some}
use Rattle.rvc_base.specs.Behaviour.{Choice, Waits, Picks, Fires}
use Rattle.cal_model.specs.Actor.{Actor}
use Rattle.cal_model.specs.ActorState.{IsActorState}
use Rattle.cal_model.specs.Firing.{behaviour}
use Rattle.cal_model.specs.Rates.{need}
use Rattle.cal_model.specs.Selection.{State, Priorities, tokens_on}
use Rattle.cal_model.specs.Sound.{IsSound}
use Rattle.static_rates.specs.Static.{IsStatic, AreNeeds, AreGives}

-- on each port as many tokens wait as these numbers say
abbrev pub FindsTokens : Actor → List ℕ → List (List ℤ) → Type 0
FindsTokens actor needs tokens = (port : ℕ) → port < length actor.ins
    → slice_index needs port ≤ length (tokens_on tokens port)

-- one of the actor's actions is to fire
abbrev pub IsToFire : Actor → Choice → Type 0
IsToFire actor choice = (a : ℕ) × (a < length actor.actions) × (choice ≡ Picks a)

-- in each of its states, a static actor that finds its tokens is to fire ..
abbrev pub StaticActorsFire : Type 0
StaticActorsFire =
    (actor : Actor) (p : Priorities actor) (state : State) (tokens : List (List ℤ)) (needs : List ℕ)
    → IsStatic actor → AreNeeds actor needs → IsActorState actor state
    → FindsTokens actor needs tokens
    → IsToFire actor ((behaviour actor p).choice state tokens)

-- .. and one that doesn't waits, ..
abbrev pub StaticActorsWait : Type 0
StaticActorsWait =
    (actor : Actor) (p : Priorities actor) (state : State) (tokens : List (List ℤ)) (needs : List ℕ)
    → IsStatic actor → AreNeeds actor needs → ¬ FindsTokens actor needs tokens
    → (behaviour actor p).choice state tokens ≡ Waits

-- .. each action that it has takes as many tokens, ..
abbrev pub StaticActorsTakeAsMany : Type 0
StaticActorsTakeAsMany = (actor : Actor) (needs : List ℕ) (a port : ℕ)
    → AreNeeds actor needs → a < length actor.actions → port < length actor.ins
    → need actor a port ≡ slice_index needs port

-- .. and each firing sends as many
abbrev pub StaticActorsSendAsMany : Type 0
StaticActorsSendAsMany =
    (actor : Actor) (p : Priorities actor) (state next : State) (tokens sent : List (List ℤ))
    (a port : ℕ) (gives : List ℕ) → IsSound actor → AreGives actor gives
    → (behaviour actor p).effect state tokens a ≡ Some (Fires next sent)
    → port < length actor.outs → length (tokens_on sent port) ≡ slice_index gives port
