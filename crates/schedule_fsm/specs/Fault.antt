-- Why steps make no automaton.
-- Trusted but for `IsTaken`: part of what a promise means.
use Rattle.std.specs.Prelude.{◌≡◌, ◌≢◌, ℕ, List, Option, Some}
use Rattle.schedule_fsm.specs.declared.fsm.Step.{Step}
use Rattle.schedule_fsm.specs.declared.fsm.FsmFault.{FsmFault}
use Rattle.schedule_fsm.specs.declared.fsm.FsmFault.TheVariants.{Ambiguous, Memory}
use Rattle.schedule_fsm.specs.Leads.{HasTwoTargets}

-- the fault names a state and an action from which steps lead to two states; running out of memory has no cause
abbrev pub IsCause : List Step → FsmFault → Type 0
IsCause steps (Ambiguous state action) = HasTwoTargets steps state action
IsCause steps Memory = Unit {0}

-- the fault names the step's state and action, whose entry holds another target
abbrev pub IsTaken : Step → Option ℕ → FsmFault → Type 0
IsTaken step found (Ambiguous state action) = (state ≡ step.from) × (action ≡ step.action)
    × ((other : ℕ) × (found ≡ Some other) × (other ≢ step.to))
IsTaken step found Memory = ⊥
