-- What selection answers, and of which state.
-- Trusted: part of what a promise means.
use Rattle.std.specs.Prelude.{◌≡◌, ℕ, ℤ, List, take}
use Rattle.rvc_base.specs.Behaviour.{Choice as Chosen, Waits, Picks, Faults}
use Rattle.action_machine.specs.Kept.{Kept, IsMadeFor}
use Rattle.lowered_actor.specs.Actor.{Actor, number_on}
use Rattle.lowered_actor.specs.Meaning.{ActorState, Guards, AreTrue, AreFalse, AreTrapping}
use Rattle.guard_select.specs.declared.guards.Ready.{Ready}
use Rattle.guard_select.specs.declared.guards.Ready.TheVariants as ready
use Rattle.guard_select.specs.declared.choosing.Choice.{Choice}
use Rattle.guard_select.specs.declared.choosing.Choice.TheVariants as choice

-- the state that a state of the schedule and cells make
abbrev pub state_of : Actor → ℕ → List ℤ → ActorState
state_of actor at cells = record { at = at; cells = take actor.kept cells }

abbrev pub guards_of : Ready → Guards
guards_of ready.True = AreTrue
guards_of ready.False = AreFalse
guards_of (ready.Trap cause) = AreTrapping cause

abbrev pub chosen_of : Choice → Chosen
chosen_of (choice.Fire action) = Picks action.0
chosen_of choice.Wait = Waits
chosen_of (choice.Trap action cause) = Faults action.0 cause

-- the cells are for the actor's code, as before, and the state cells hold what they held
pub record KeepsState (actor : Actor) (old new : Kept) : Type 0 where
  pub made : IsMadeFor actor.code new
  pub state : take actor.kept new.numbers ≡ take actor.kept old.numbers

-- the first tokens of each port, as many as these numbers say
abbrev pub first_of : List ℕ → (ℕ → List ℤ) → ℕ → List ℤ
first_of numbers tokens p = take (number_on numbers p) (tokens p)
