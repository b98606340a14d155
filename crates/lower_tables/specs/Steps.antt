-- The steps of which the automaton of an actor is built.
-- Not trusted: no promise is read with it.
use Rattle.std.specs.Prelude.{ℕ, zero, suc, ◌+◌, Bool, true, false, ◌||◌, ◌==◌, List, [], ◌∷◌, ◌++◌, map, if◌then◌else◌, Option, None, Some}
use Rattle.schedule_fsm.specs.declared.fsm.Step.{Step}
use Rattle.cal_model.specs.Actor.{Action, Move, Actor}
use Rattle.cal_model.specs.Eligible.{fresh, is_empty}

abbrev pub step_of : Move → Step
step_of m = record { from = m.from; action = m.action; to = m.to }

-- where an action leads, whatever the moves of the schedule are
abbrev pub fixed_target : ℕ → Bool → ℕ → Action → Option ℕ
fixed_target first stateless s act =
    if s == first then (if act.initialize then Some 0 else None)
    else if act.initialize then None
    else if is_empty act.tag || stateless then Some s
    else None

-- the step of an action from a state, if it leads anywhere
abbrev pub step_if : ℕ → ℕ → Option ℕ → List Step
step_if s a None = []
step_if s a (Some to) = record { from = s; action = a; to = to } ∷ []

-- the fixed steps from a state, of actions of which the first is number k
abbrev pub fixed_from : ℕ → Bool → ℕ → ℕ → List Action → List Step
fixed_from first stateless s k [] = []
fixed_from first stateless s k (act ∷ acts) =
    step_if s k (fixed_target first stateless s act)
    ++ fixed_from first stateless s (suc k) acts

-- those from the first n states
abbrev pub fixed_steps : ℕ → Bool → List Action → ℕ → List Step
fixed_steps first stateless acts zero = []
fixed_steps first stateless acts (suc s) =
    fixed_steps first stateless acts s ++ fixed_from first stateless s 0 acts

-- all steps of an actor of n states: the fixed ones and its moves
abbrev pub all_steps : Actor → ℕ → List Step
all_steps actor n = fixed_steps (fresh actor) (is_empty actor.states) actor.actions n
    ++ map step_of actor.moves

-- how many states there are, if so many are those of the schedule
abbrev pub state_total : ℕ → Bool → ℕ
state_total first true = first + 1
state_total first false = first
