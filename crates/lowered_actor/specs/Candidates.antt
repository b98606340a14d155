-- The table of the actions that are eligible in each state.
-- Trusted: part of what a promise means.
use Rattle.std.specs.Prelude.{◌≡◌, ℕ, ◌<◌, List, length, Some, is_some, slice_get}
use Rattle.std.specs.List.{filter}
use Rattle.schedule_fsm.specs.Automaton.{Automaton, target}
use Rattle.lowered_actor.specs.declared.candidates.Candidates.{Candidates}

-- those of a list that are eligible in a state
abbrev pub eligible_among : Automaton → ℕ → List ℕ → List ℕ
eligible_among fsm state actions = filter (λ a. is_some (target fsm state a)) actions

-- the row of a state
pub record IsRow (fsm : Automaton) (line : List ℕ) (rows : List Candidates) (state : ℕ) :
    Type 0 where
  pub row : Candidates
  pub there : slice_get rows state ≡ Some row
  pub is : row.actions.items ≡ eligible_among fsm state line

-- there are so many rows, for the states from 0 on
pub record AreRows (fsm : Automaton) (line : List ℕ) (count : ℕ) (rows : List Candidates) :
    Type 0 where
  pub size : length rows ≡ count
  pub each : (state : ℕ) → state < count → IsRow fsm line rows state
