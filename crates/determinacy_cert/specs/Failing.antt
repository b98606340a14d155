-- What the certification rule refuses, in the order in which it is sought.
-- Trusted: part of what a promise means.
use Rattle.std.specs.Prelude.{ℕ, zero, suc, ◌-◌, Bool, ◌&&◌, ◌||◌, List, [], ◌∷◌, ◌++◌, length, if◌then◌else◌, Option, None, Some, slice_get}
use Rattle.cal_model.specs.Actor.{Action, Actor}
use Rattle.cal_model.specs.Eligible.{eligible, has_initialize, states_of}
use Rattle.cal_model.specs.Certified.{guard_names}
use Rattle.determinacy_cert.specs.declared.fault.Reason.{Reason}
use Rattle.determinacy_cert.specs.declared.fault.Reason.TheVariants.{C1, C2, C3, C4}
use Rattle.determinacy_cert.specs.Deciding.{are_bare, have_ranges, guards_exclude, needs_no_more}

-- where the rule fails: in a state, for the guards of an action that both name or for a pair of actions
pub record Failure : Type 0 where
  pub state : ℕ
  pub a : ℕ
  pub b : ℕ
  pub reason : Reason

-- ---- one judgement an action and a pair, none if nothing is wrong

-- the guards of an action
abbrev pub guards_judged : Actor → Action → Option Reason
guards_judged actor act =
    if are_bare act.guards then (if have_ranges (guard_names actor act) act.guards then None
    else Some C4) else Some C3

abbrev pub action_judged : Actor → ℕ → Option Reason
action_judged actor a =
    elim (slice_get actor.actions a) [ None ↦ None | Some act ↦ guards_judged actor act ]

-- One action is above the other and needs no more tokens on any port, or their guards exclude each other. `above` tells
-- which action is above which.
abbrev pub settled : Actor → (ℕ → ℕ → Bool) → ℕ → ℕ → Action → Action → Bool
settled actor above a b one two =
    (above a b && needs_no_more actor a b one.patterns) ||
    (above b a && needs_no_more actor b a two.patterns) || guards_exclude one two

abbrev pub two_judged : Actor → (ℕ → ℕ → Bool) → ℕ → ℕ → Action → Action → Option Reason
two_judged actor above a b one two =
    if settled actor above a b one two then None
    else if above a b || above b a then Some C1
    else Some C2

abbrev pub pair_judged : Actor → (ℕ → ℕ → Bool) → ℕ → ℕ → Option Reason
pair_judged actor above a b =
    elim (slice_get actor.actions a) [
      | None ↦ None
      | Some one ↦ elim (slice_get actor.actions b)
          [ None ↦ None | Some two ↦ two_judged actor above a b one two ]
    ]

-- ---- the failures, in order

abbrev pub failed : ℕ → ℕ → ℕ → Option Reason → List Failure
failed s a b None = []
failed s a b (Some reason) = record { state = s; a = a; b = b; reason = reason } ∷ []

-- those of n numbers, from k on
abbrev pub each_from : {A : Type 0} → ℕ → ℕ → (ℕ → List A) → List A
each_from zero k f = []
each_from (suc n) k f = f k ++ each_from n (suc k) f

abbrev pub action_failures : Actor → ℕ → ℕ → List Failure
action_failures actor s a = if eligible actor s a then failed s a a (action_judged actor a) else []

abbrev pub pair_failures : Actor → (ℕ → ℕ → Bool) → ℕ → ℕ → ℕ → List Failure
pair_failures actor above s a b = if eligible actor s a && eligible actor s b
    then failed s a b (pair_judged actor above a b) else []

-- those of the pairs whose first action is a
abbrev pub pairs_failures : Actor → (ℕ → ℕ → Bool) → ℕ → ℕ → List Failure
pairs_failures actor above s a = each_from (length actor.actions - suc a) (suc a)
    (λ b. pair_failures actor above s a b)

-- those of the guards of the first n actions, and of the pairs whose first action is among these
abbrev pub guards_failures : ℕ → Actor → ℕ → List Failure
guards_failures n actor s = each_from n 0 (λ a. action_failures actor s a)

abbrev pub all_pairs_failures : ℕ → Actor → (ℕ → ℕ → Bool) → ℕ → List Failure
all_pairs_failures n actor above s = each_from n 0 (λ a. pairs_failures actor above s a)

-- in a state first each eligible action, then the pairs of them
abbrev pub state_failures : Actor → (ℕ → ℕ → Bool) → ℕ → List Failure
state_failures actor above s =
    guards_failures (length actor.actions) actor s
    ++ all_pairs_failures (length actor.actions) actor above s

-- the states of the schedule, and the fresh one if there is an `initialize`
abbrev pub all_states : Actor → ℕ
all_states actor = if has_initialize actor.actions then suc (states_of actor) else states_of actor

abbrev pub failures : Actor → (ℕ → ℕ → Bool) → List Failure
failures actor above = each_from (all_states actor) 0 (λ s. state_failures actor above s)

abbrev pub first : {A : Type 0} → List A → Option A
first [] = None
first (x ∷ xs) = Some x
