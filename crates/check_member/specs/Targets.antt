-- Where moves lead, as a table: a row for each state and a column for each action.
-- Not trusted: no promise is read with it.
use Rattle.std.specs.Prelude.{◌≡◌, ℕ, ◌+◌, ◌*◌, ◌<◌, List, [], ◌∷◌, ◌++◌, Option, Some, length, true, Contains}
use Rattle.schedule_fsm.specs.Automaton.{entry}
use Rattle.cal_model.specs.Actor.{Action, Move}
use Rattle.cal_model.specs.Sound.{Each}
use Rattle.cal_model.specs.Tags.{Transition, is_seen, stands_from}

-- the actions that some of these tags stand for, tag by tag
abbrev pub meant_by_tags : List (List (List ℕ)) → List Action → List ℕ
meant_by_tags [] acts = []
meant_by_tags (tag ∷ tags) acts = stands_from 0 tag acts ++ meant_by_tags tags acts

-- a move of these states and actions, which the table has
pub record IsTold (states columns : ℕ) (table : List (Option ℕ)) (m : Move) : Type 0 where
  pub from : m.from < states
  pub action : m.action < columns
  pub to : entry columns table m.from m.action ≡ Some m.to

-- the table has these moves and no others
pub record Tells (states columns : ℕ) (table : List (Option ℕ)) (moves : List Move) : Type 0 where
  pub size : length table ≡ states * columns
  pub each : Each (IsTold states columns table) moves
  pub only : (from action to : ℕ) → from < states → action < columns
      → entry columns table from action ≡ Some to
      → Contains moves (record { from = from; action = action; to = to })

-- both states of a transition are among these
abbrev pub IsSeen : List (List ℕ) → Transition → Type 0
IsSeen states t = (is_seen t.from states ≡ true) × (is_seen t.to states ≡ true)

abbrev pub AreSeen : List (List ℕ) → List Transition → Type 0
AreSeen states ts = Each (IsSeen states) ts
