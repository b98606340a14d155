-- What an automaton is seen as.
-- Trusted: part of what a promise means.
use Rattle.std.specs.Prelude.{◌≡◌, ℕ, ◌+◌, ◌*◌, ◌<◌, List, length, slice_index_or, Option, None, Some}

-- how many states and actions it has, and row by row, a row a state and a column an action, the state
-- that follows: none if the action isn't eligible
pub record Automaton : Type 0 where
  pub states : ℕ
  pub actions : ℕ
  pub targets : List (Option ℕ)

-- the entry of a state and an action in a table with so many columns
abbrev pub entry : ℕ → List (Option ℕ) → ℕ → ℕ → Option ℕ
entry columns table state action = slice_index_or table (state * columns + action) None

-- the state that follows a state by an action: none if the action isn't eligible there
abbrev pub target : Automaton → ℕ → ℕ → Option ℕ
target fsm state action = entry fsm.actions fsm.targets state action

-- what each automaton keeps: an entry for each state and action, and targets that are states
pub record IsWhole (fsm : Automaton) : Type 0 where
  pub size : length fsm.targets ≡ fsm.states * fsm.actions
  pub in_range : (state action to : ℕ) → state < fsm.states → action < fsm.actions
      → target fsm state action ≡ Some to → to < fsm.states
