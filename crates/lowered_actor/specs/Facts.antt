-- The facts that each lowered actor keeps.
-- Trusted: part of what a promise means.
use Rattle.std.specs.Prelude.{◌≡◌, ℕ, ◌+◌, ◌≤◌, ◌<◌, true, IsTrue, ℤ, pos, zero, suc, List, [], ◌∷◌, length, take, Some, slice_get, slice_index_or, All, Contains}
use Rattle.rvc_base.specs.Line.{IsLine}
use Rattle.rvc_base.specs.Storing.{IsSize}
use Rattle.code_ir.specs.declared.outcome.Outcome.{Outcome}
use Rattle.code_ir.specs.declared.outcome.Outcome.TheVariants as outcome
use Rattle.code_ir.specs.Code.{is_among}
use Rattle.code_ir.specs.Running.{runs, HasItsTokens}
use Rattle.code_ir.specs.Typing.{IsAdmitted}
use Rattle.priority_order.specs.Ranking.{is_above}
use Rattle.lowered_actor.specs.declared.parts.StateCell.{StateCell}
use Rattle.lowered_actor.specs.Actor.{Action, Actor, number_on}

-- ---- the parts fit together

-- the numbers of an action: one for each port, entries of the code, and cells that it has
pub record Fits (actor : Actor) (action : Action) : Type 0 where
  pub needs : length action.needs ≡ actor.ins
  pub gives : length action.gives ≡ actor.outs
  pub sends : length action.sends ≡ actor.outs
  pub guards : All (λ entry. is_among entry actor.code.entries ≡ true) action.guards
  pub fire : is_among action.fire actor.code.entries ≡ true
  pub sent : (p : ℕ) → p < actor.outs
      → number_on action.sends p + number_on action.gives p ≤ actor.code.cells

-- a firing may change this state cell
abbrev pub IsSaved : Actor → ℕ → Type 0
IsSaved actor cell = (k : ℕ) × (saved : StateCell) × (slice_get actor.saved k ≡ Some saved)
    × (saved.cell ≡ cell)

-- no two of these cells are one
abbrev pub AreApart : List StateCell → Type 0
AreApart cells = (j k : ℕ) (one other : StateCell) → slice_get cells j ≡ Some one
    → slice_get cells k ≡ Some other → one.cell ≡ other.cell → j ≡ k

-- the automaton, the order and the actions are of the same actions, and all numbers are in range
pub record FitTogether (actor : Actor) : Type 0 where
  pub automaton : actor.fsm.actions ≡ length actor.actions
  pub order : actor.order.count ≡ length actor.actions
  pub first : length actor.first ≡ actor.code.cells
  pub start : actor.start < actor.fsm.states
  pub kept : actor.kept ≤ actor.code.cells
  pub saved : All (λ saved. saved.cell < actor.kept) actor.saved
  pub apart : AreApart actor.saved
  pub sizes : All (λ saved. IsSize saved.kind) actor.saved
  pub each : All (Fits actor) actor.actions

-- ---- runs

-- there is a number for each cell of the code, and there are exactly the tokens that the action takes
pub record IsAsked (actor : Actor) (action : Action) (cells : List ℤ) (tokens : ℕ → List ℤ) :
    Type 0 where
  pub cells_there : length cells ≡ actor.code.cells
  pub tokens_there : (p : ℕ) → length (tokens p) ≡ number_on action.needs p

-- the state cells are the same
abbrev pub SameState : Actor → List ℤ → List ℤ → Type 0
SameState actor cells others = take actor.kept cells ≡ take actor.kept others

-- n numbers, those in the cells from c on
abbrev pub cells_from : List ℤ → ℕ → ℕ → List ℤ
cells_from cells c zero = []
cells_from cells c (suc n) = slice_index_or cells c (pos 0) ∷ cells_from cells (c + 1) n

-- what is in the cells of the tokens to send is the same
abbrev pub SameSent : Actor → Action → List ℤ → List ℤ → Type 0
SameSent actor action cells others = (p : ℕ) → p < actor.outs
    → cells_from cells (number_on action.sends p) (number_on action.gives p)
    ≡ cells_from others (number_on action.sends p) (number_on action.gives p)

-- so a guard ends ..
abbrev pub IsAnswer : Outcome → Type 0
IsAnswer outcome.Done = ⊥
IsAnswer outcome.True = Unit {0}
IsAnswer outcome.False = Unit {0}
IsAnswer (outcome.Trap cause) = Unit {0}

-- .. and so a firing
abbrev pub IsEffect : Outcome → Type 0
IsEffect outcome.Done = Unit {0}
IsEffect outcome.True = ⊥
IsEffect outcome.False = ⊥
IsEffect (outcome.Trap cause) = Unit {0}

-- A guard reads no token behind those that its action takes, changes no state cell, and what it answers is a
-- matter of these tokens and the state cells alone.
pub record IsGuard (actor : Actor) (action : Action) (entry : ℕ) : Type 0 where
  pub reads : (cells : List ℤ) (tokens : ℕ → List ℤ) → IsAsked actor action cells tokens
      → HasItsTokens actor.code entry cells tokens
  pub answers : (cells : List ℤ) (tokens : ℕ → List ℤ) (o : Outcome) (left : List ℤ)
      → IsAsked actor action cells tokens → runs actor.code entry cells tokens o left → IsAnswer o
  pub keeps : (cells : List ℤ) (tokens : ℕ → List ℤ) (o : Outcome) (left : List ℤ)
      → IsAsked actor action cells tokens → runs actor.code entry cells tokens o left
      → SameState actor left cells
  pub alike : (cells others : List ℤ) (tokens : ℕ → List ℤ) (o p : Outcome) (left last : List ℤ)
      → IsAsked actor action cells tokens → IsAsked actor action others tokens
      → SameState actor cells others
      → runs actor.code entry cells tokens o left → runs actor.code entry others tokens p last
      → o ≡ p

-- A firing reads no token behind those that its action takes, and changes no state cell but those that are saved.
-- How it ends is a matter of these tokens and the state cells alone, and so are the state and the tokens to send
-- that it leaves if it is done.
pub record IsFiring (actor : Actor) (action : Action) (entry : ℕ) : Type 0 where
  pub reads : (cells : List ℤ) (tokens : ℕ → List ℤ) → IsAsked actor action cells tokens
      → HasItsTokens actor.code entry cells tokens
  pub ends : (cells : List ℤ) (tokens : ℕ → List ℤ) (o : Outcome) (left : List ℤ)
      → IsAsked actor action cells tokens → runs actor.code entry cells tokens o left → IsEffect o
  pub keeps : (cells : List ℤ) (tokens : ℕ → List ℤ) (o : Outcome) (left : List ℤ)
      → IsAsked actor action cells tokens → runs actor.code entry cells tokens o left
      → (cell : ℕ) → cell < actor.kept → ¬ IsSaved actor cell
      → slice_get left cell ≡ slice_get cells cell
  pub alike : (cells others : List ℤ) (tokens : ℕ → List ℤ) (o p : Outcome) (left last : List ℤ)
      → IsAsked actor action cells tokens → IsAsked actor action others tokens
      → SameState actor cells others
      → runs actor.code entry cells tokens o left → runs actor.code entry others tokens p last
      → (o ≡ p) × (o ≡ outcome.Done → SameState actor left last × SameSent actor action left last)

-- ---- all of them

-- each guard and each firing is one
pub record RunRight (actor : Actor) : Type 0 where
  pub guards : (a : ℕ) (action : Action) (entry : ℕ) → slice_get actor.actions a ≡ Some action
      → Contains action.guards entry → IsGuard actor action entry
  pub firings : (a : ℕ) (action : Action) → slice_get actor.actions a ≡ Some action
      → IsFiring actor action action.fire

pub record IsLowered (actor : Actor) : Type 0 where
  pub admitted : IsAdmitted actor.code
  pub lined : IsLine actor.order.count (λ a b. IsTrue (is_above actor.order a b)) actor.order.line
  pub fits : FitTogether actor
  pub right : RunRight actor
