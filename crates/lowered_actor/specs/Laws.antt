-- What holds of all lowered actors.
-- Trusted: part of what a promise means.
use Rattle.std.specs.Prelude.{◌≡◌, ℕ, true, ℤ, List, length, take, Some, slice_get, Contains}
use Rattle.rvc_base.specs.Lawful.{IsLawful}
use Rattle.code_ir.specs.declared.outcome.Outcome.{Outcome}
use Rattle.code_ir.specs.declared.outcome.Outcome.TheVariants as outcome
use Rattle.code_ir.specs.Running.{runs}
use Rattle.lowered_actor.specs.Actor.{Action, Actor}
use Rattle.lowered_actor.specs.Facts.{IsLowered, IsAsked, SameState, SameSent}
use Rattle.lowered_actor.specs.Meaning.{ActorState, End, behaviour, is_state, has_its_tokens, taken, cells_of, end_of}

abbrev pub LoweredAreLawful : Type 0
LoweredAreLawful = (actor : Actor) → IsLowered actor → IsLawful (behaviour actor)

-- these cells are those of a state, whatever the cells behind the state cells hold
pub record AreCellsOf (actor : Actor) (x : ActorState) (cells : List ℤ) : Type 0 where
  pub state : is_state actor x ≡ true
  pub size : length cells ≡ actor.code.cells
  pub kept : take actor.kept cells ≡ x.cells

-- an action that is there and has its tokens
pub record IsReady (actor : Actor) (tokens : ℕ → List ℤ) (a : ℕ) (action : Action) : Type 0 where
  pub there : slice_get actor.actions a ≡ Some action
  pub has : has_its_tokens actor tokens a ≡ true

-- there are exactly the tokens that the action takes
abbrev pub TokensAreAsked : Type 0
TokensAreAsked = (actor : Actor) (x : ActorState) (tokens : ℕ → List ℤ) (a : ℕ) (action : Action)
    (cells : List ℤ)
    → IsLowered actor → AreCellsOf actor x cells → IsReady actor tokens a action
    → IsAsked actor action cells (taken actor tokens a)

-- the end of a guard's run, with which its meaning is said, is as that of each run of it in that state
pub record GuardEnds (actor : Actor) (x : ActorState) (tokens : ℕ → List ℤ) (entry : ℕ) (o : Outcome) : Type 0 where
  pub end : End
  pub is : end_of actor.code entry (cells_of actor x) tokens ≡ Some end
  pub same : end.outcome ≡ o

abbrev pub GuardsEnd : Type 0
GuardsEnd =
    (actor : Actor) (x : ActorState) (tokens : ℕ → List ℤ) (a : ℕ) (action : Action) (entry : ℕ)
    (cells left : List ℤ) (o : Outcome) → IsLowered actor → AreCellsOf actor x cells
    → IsReady actor tokens a action
    → Contains action.guards entry → runs actor.code entry cells (taken actor tokens a) o left
    → GuardEnds actor x (taken actor tokens a) entry o

-- the same of a firing's run, with the state and the tokens that it leaves if it is done
pub record FiringEnds (actor : Actor) (x : ActorState) (tokens : ℕ → List ℤ) (action : Action)
    (o : Outcome) (left : List ℤ) : Type 0 where
  pub end : End
  pub is : end_of actor.code action.fire (cells_of actor x) tokens ≡ Some end
  pub same : end.outcome ≡ o
  pub state : o ≡ outcome.Done → SameState actor end.cells left
  pub sent : o ≡ outcome.Done → SameSent actor action end.cells left

abbrev pub FiringsEnd : Type 0
FiringsEnd = (actor : Actor) (x : ActorState) (tokens : ℕ → List ℤ) (a : ℕ) (action : Action)
    (cells left : List ℤ) (o : Outcome) → IsLowered actor → AreCellsOf actor x cells
    → IsReady actor tokens a action
    → runs actor.code action.fire cells (taken actor tokens a) o left
    → FiringEnds actor x (taken actor tokens a) action o left
