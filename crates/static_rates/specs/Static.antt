-- Static actors (Lee and Messerschmitt, Synchronous Data Flow, 1987).
-- Trusted: part of what a promise means.
use Rattle.std.specs.Prelude.{◌≡◌, ℕ, ◌<◌, Bool, true, false, not, ◌||◌, List, [], ◌∷◌, length, slice_index}
use Rattle.cal_model.specs.Actor.{Action, Actor}
use Rattle.cal_model.specs.Eligible.{has_initialize, is_empty, IsStateOf, eligible}
use Rattle.cal_model.specs.Rates.{need, give}
use Rattle.static_rates.specs.declared.static_actor.StaticRule.{StaticRule}
use Rattle.static_rates.specs.declared.static_actor.StaticRule.TheVariants.{S1, S2, S3, S4}
use Rattle.static_rates.specs.declared.static_actor.StaticFault.{StaticFault}
use Rattle.static_rates.specs.declared.static_actor.StaticFault.TheVariants.{NotStatic, Memory}

-- whether an action has a guard
abbrev pub has_guard : List Action → Bool
has_guard [] = false
has_guard (act ∷ acts) = not (is_empty act.guards) || has_guard acts

-- two actions need and give as many tokens on each port
pub record HaveSameRates (actor : Actor) (a b : ℕ) : Type 0 where
  pub needs : (port : ℕ) → port < length actor.ins → need actor a port ≡ need actor b port
  pub gives : (port : ℕ) → port < length actor.outs → give actor a port ≡ give actor b port

-- so do any two
abbrev pub AllHaveSameRates : Actor → Type 0
AllHaveSameRates actor = (a b : ℕ) → a < length actor.actions → b < length actor.actions
    → HaveSameRates actor a b

-- in each state an action is eligible
abbrev pub AlwaysEligible : Actor → Type 0
AlwaysEligible actor = (s : ℕ) → IsStateOf actor s
    → (a : ℕ) × (a < length actor.actions) × (eligible actor s a ≡ true)

-- a state in which none is
abbrev pub HasDeadState : Actor → Type 0
HasDeadState actor = (s : ℕ) × IsStateOf actor s × ((a : ℕ) → eligible actor s a ≡ false)

pub record IsStatic (actor : Actor) : Type 0 where
  pub no_initialize : has_initialize actor.actions ≡ false
  pub no_guard : has_guard actor.actions ≡ false
  pub same_rates : AllHaveSameRates actor
  pub always_eligible : AlwaysEligible actor

-- the first rule that an actor breaks, in this order
abbrev pub BreaksFirst : Actor → StaticRule → Type 0
BreaksFirst actor S1 = has_initialize actor.actions ≡ true
BreaksFirst actor S2 = (has_initialize actor.actions ≡ false) × (has_guard actor.actions ≡ true)
BreaksFirst actor S3 = (has_initialize actor.actions ≡ false) × (has_guard actor.actions ≡ false)
    × (¬ AllHaveSameRates actor)
BreaksFirst actor S4 = (has_initialize actor.actions ≡ false) × (has_guard actor.actions ≡ false)
    × AllHaveSameRates actor × HasDeadState actor

-- a rule that is named is the first that is broken; running out of memory has no cause
abbrev pub IsCause : Actor → StaticFault → Type 0
IsCause actor (NotStatic reason) = BreaksFirst actor reason
IsCause actor Memory = Unit {0}

-- each action of the actor needs, and gives, these numbers of tokens on its ports
abbrev pub AreNeeds : Actor → List ℕ → Type 0
AreNeeds actor numbers = (length numbers ≡ length actor.ins) × ((a port : ℕ)
    → a < length actor.actions → port < length actor.ins
    → slice_index numbers port ≡ need actor a port)

abbrev pub AreGives : Actor → List ℕ → Type 0
AreGives actor numbers = (length numbers ≡ length actor.outs) × ((a port : ℕ)
    → a < length actor.actions → port < length actor.outs
    → slice_index numbers port ≡ give actor a port)
