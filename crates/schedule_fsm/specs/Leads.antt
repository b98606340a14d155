-- Where an action leads from a state, by steps and free actions: the action schedules of the CAL Language
-- Report (action-level control structures), over numbers.
-- Trusted: part of what a promise means.
use Rattle.std.specs.Prelude.{◌≡◌, ◌≢◌, ℕ, Bool, false, List, slice_index_or, Contains, ◌⊎◌, IsTrue}
use Rattle.schedule_fsm.specs.declared.fsm.Step.{Step}

-- a step leads from this state by this action to that one
abbrev pub StepLeads : List Step → ℕ → ℕ → ℕ → Type 0
StepLeads steps state action to = Contains steps (record { from = state; action = action; to = to })

-- the action is free: eligible in each state, which it doesn't change
abbrev pub IsFree : List Bool → ℕ → Type 0
IsFree free action = IsTrue (slice_index_or free action false)

-- the action leads from this state to that one: a free action to the state itself, another one by a step
abbrev pub Leads : List Step → List Bool → ℕ → ℕ → ℕ → Type 0
Leads steps free state action to = (IsFree free action × (to ≡ state))
    ⊎ StepLeads steps state action to

-- steps lead from this state by this action to two states
abbrev pub HasTwoTargets : List Step → ℕ → ℕ → Type 0
HasTwoTargets steps state action = (one : ℕ) × (two : ℕ) × StepLeads steps state action one
    × StepLeads steps state action two × (one ≢ two)
