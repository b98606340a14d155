-- Eligibility: which actions the schedule lets fire in a state, and where they lead (CAL Language Report,
-- action schedules).
-- Trusted: part of what a promise means.
use Rattle.std.specs.Prelude.{◌≡◌, ℕ, max, ◌<◌, ◌⊎◌, Bool, true, false, ◌||◌, ◌&&◌, List, [], ◌∷◌, length, ◌==◌, if◌then◌else◌, Option, None, Some, is_some, slice_get}
use Rattle.cal_model.specs.Actor.{Action, Move, Actor}

-- there are as many states as the schedule names, and state 0 alone if there is no schedule
abbrev pub states_of : Actor → ℕ
states_of actor = max 1 (length actor.states)

-- the state of an instance whose `initialize` action has not fired yet, which comes after these
abbrev pub fresh : Actor → ℕ
fresh = states_of

abbrev pub has_initialize : List Action → Bool
has_initialize [] = false
has_initialize (act ∷ acts) = act.initialize || has_initialize acts

-- a state of the schedule, or the fresh one if there is an `initialize`
abbrev pub IsStateOf : Actor → ℕ → Type 0
IsStateOf actor s = (s < states_of actor)
    ⊎ ((has_initialize actor.actions ≡ true) × (s ≡ fresh actor))

-- where an instance begins
abbrev pub start_state : Actor → ℕ
start_state actor = if has_initialize actor.actions then fresh actor else 0

abbrev pub is_empty : {A : Type 0} → List A → Bool
is_empty [] = true
is_empty (x ∷ xs) = false

-- where the schedule leads from state s by action a
abbrev pub target : List Move → ℕ → ℕ → Option ℕ
target [] s a = None
target (m ∷ ms) s a = if m.from == s && m.action == a then Some m.to else target ms s a

-- where an action leads to from a state, if it is eligible there
abbrev pub leads : Actor → ℕ → ℕ → Action → Option ℕ
leads actor s a act =
    if s == fresh actor then (if act.initialize then Some 0 else None)
    else if act.initialize then None
    else if is_empty act.tag then Some s
    else if is_empty actor.states then Some s
    else target actor.moves s a

abbrev pub next : Actor → ℕ → ℕ → Option ℕ
next actor s a = elim (slice_get actor.actions a) [ None ↦ None | Some act ↦ leads actor s a act ]

abbrev pub eligible : Actor → ℕ → ℕ → Bool
eligible actor s a = is_some (next actor s a)
