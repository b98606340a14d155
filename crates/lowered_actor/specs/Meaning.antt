-- What a lowered actor does: which of its actions is to fire, and what a firing makes of the state and the tokens
-- (CAL Language Report, guards, priorities and the execution of an actor).
-- Trusted: part of what a promise means.
use Rattle.std.specs.Prelude.{ℕ, zero, suc, ◌+◌, ◌==◌, Bool, true, false, not, ◌&&◌, ◌||◌, List, [], ◌∷◌, ◌++◌, ℤ, length, take, drop, nat_le, if◌then◌else◌, Option, None, Some, is_some, slice_get}
use Rattle.rvc_base.specs.declared.trap.Trap.{Trap as TrapName}
use Rattle.rvc_base.specs.Behaviour.{Behaviour, Effect, Choice, Fires, TrapsInGuard, TrapsInBody, Waits, Picks, Faults}
use Rattle.rvc_base.specs.Lawful.{tokens_on}
use Rattle.code_ir.specs.declared.outcome.Outcome.{Outcome}
use Rattle.code_ir.specs.declared.outcome.Outcome.TheVariants as outcome
use Rattle.code_ir.specs.Code.{Code}
use Rattle.code_ir.specs.Running.{State, Next, Goes, Over, Lacks, Stuck, step, start}
use Rattle.code_ir.specs.Standing.{most_steps}
use Rattle.schedule_fsm.specs.Automaton.{target}
use Rattle.priority_order.specs.Ranking.{is_above}
use Rattle.lowered_actor.specs.Actor.{Action, Actor, number_on}
use Rattle.lowered_actor.specs.Facts.{cells_from}

-- ---- the end of a run

-- how a run ended, and the cells that it left
pub record End : Type 0 where
  pub outcome : Outcome
  pub cells : List ℤ

abbrev pub end_after : Next → (State → Option End) → Option End
end_after (Goes t) more = more t
end_after (Over o cells) more = Some (record { outcome = o; cells = cells })
end_after Lacks more = None
end_after Stuck more = None

-- the end that a run from this state comes to in at most so many steps
abbrev pub end_within : ℕ → Code → (ℕ → List ℤ) → State → Option End
end_within zero code tokens s = None
end_within (suc n) code tokens s = end_after (step code tokens s) (end_within n code tokens)

-- The end of a run from an entry. Code that is admitted makes fewer steps than this, so that there is an end
-- unless it lacks tokens.
abbrev pub end_of : Code → ℕ → List ℤ → (ℕ → List ℤ) → Option End
end_of code entry cells tokens =
    end_within (suc (most_steps code (start entry cells))) code tokens (start entry cells)

-- ---- states

-- the state of the schedule, and what is in the state cells
pub record ActorState : Type 0 where
  pub at : ℕ
  pub cells : List ℤ

abbrev pub start_of : Actor → ActorState
start_of actor = record { at = actor.start; cells = take actor.kept actor.first }

abbrev pub is_state : Actor → ActorState → Bool
is_state actor x = nat_le (suc x.at) actor.fsm.states && (length x.cells == actor.kept)

-- The cells before a run. No run depends on what the cells behind the state cells hold: here it is what they hold
-- at first.
abbrev pub cells_of : Actor → ActorState → List ℤ
cells_of actor x = x.cells ++ drop actor.kept actor.first

-- ---- rates, eligibility and tokens

abbrev pub need : Actor → ℕ → ℕ → ℕ
need actor a p =
    elim (slice_get actor.actions a) [ None ↦ 0 | Some action ↦ number_on action.needs p ]

abbrev pub give : Actor → ℕ → ℕ → ℕ
give actor a p =
    elim (slice_get actor.actions a) [ None ↦ 0 | Some action ↦ number_on action.gives p ]

abbrev pub is_eligible : Actor → ℕ → ℕ → Bool
is_eligible actor s a = is_some (target actor.fsm s a)

abbrev pub next : Actor → ℕ → ℕ → ℕ
next actor s a = elim (target actor.fsm s a) [ None ↦ s | Some to ↦ to ]

-- there are as many tokens as are needed on each of the first n ports
abbrev pub has_on_first : (ℕ → ℕ) → (ℕ → List ℤ) → ℕ → Bool
has_on_first needed tokens zero = true
has_on_first needed tokens (suc p) =
    has_on_first needed tokens p && nat_le (needed p) (length (tokens p))

abbrev pub has_its_tokens : Actor → (ℕ → List ℤ) → ℕ → Bool
has_its_tokens actor tokens a = has_on_first (need actor a) tokens actor.ins

-- the tokens that an action takes
abbrev pub taken : Actor → (ℕ → List ℤ) → ℕ → ℕ → List ℤ
taken actor tokens a p = take (need actor a p) (tokens p)

-- ---- guards

-- what guards say: all are true, the first that isn't true is false, or that one traps
pub data Guards : Type 0 where
  AreTrue : Guards
  AreFalse : Guards
  AreTrapping : TrapName → Guards

abbrev pub outcome_then : Outcome → Guards → Guards
outcome_then outcome.True others = others
outcome_then outcome.False others = AreFalse
outcome_then outcome.Done others = AreFalse
outcome_then (outcome.Trap cause) others = AreTrapping cause

abbrev pub guard_then : Option End → Guards → Guards
guard_then None others = AreFalse
guard_then (Some end) others = outcome_then end.outcome others

-- in their order, each with all turns
abbrev pub guards_say : Code → List ℤ → (ℕ → List ℤ) → List ℕ → Guards
guards_say code cells tokens [] = AreTrue
guards_say code cells tokens (entry ∷ entries) =
    guard_then (end_of code entry cells tokens) (guards_say code cells tokens entries)

-- What the guards of an action say. If it isn't eligible or lacks tokens, they are false.
abbrev pub readiness : Actor → ActorState → (ℕ → List ℤ) → ℕ → Guards
readiness actor x tokens a = elim (slice_get actor.actions a) [
  | None ↦ AreFalse
  | Some action ↦
      if is_eligible actor x.at a && has_its_tokens actor tokens a
      then guards_say actor.code (cells_of actor x) (taken actor tokens a) action.guards
      else AreFalse
]

-- ---- the choice

abbrev pub choice_among : (ℕ → Guards) → List ℕ → Choice
choice_among ready [] = Waits
choice_among ready (a ∷ line) = elim (ready a) [
  | AreTrue ↦ Picks a
  | AreFalse ↦ choice_among ready line
  | AreTrapping cause ↦ Faults a cause
]

-- The first action of the line that is eligible, has its tokens, and whose guards aren't false: it is to fire, or
-- its guards trap.
abbrev pub choice : Actor → ActorState → (ℕ → List ℤ) → Choice
choice actor x tokens =
    if is_state actor x then choice_among (readiness actor x tokens) actor.order.line else Waits

-- ---- enabled and exposed actions

abbrev pub are_true : Guards → Bool
are_true AreTrue = true
are_true AreFalse = false
are_true (AreTrapping cause) = false

-- one of these is above a and enabled: eligible, with its tokens, its guards true
abbrev pub is_outranked : Actor → (ℕ → Guards) → ℕ → List ℕ → Bool
is_outranked actor ready a [] = false
is_outranked actor ready a (b ∷ bs) =
    (is_above actor.order b a && are_true (ready b)) || is_outranked actor ready a bs

-- eligible, with its tokens, and no action above it is enabled
abbrev pub is_exposed : Actor → ActorState → (ℕ → List ℤ) → ℕ → Bool
is_exposed actor x tokens a = (is_eligible actor x.at a && has_its_tokens actor tokens a)
    && not (is_outranked actor (readiness actor x tokens) a actor.order.line)

-- ---- firings

-- what is sent on n output ports from port p on
abbrev pub sent_from : Action → List ℤ → ℕ → ℕ → List (List ℤ)
sent_from action cells p zero = []
sent_from action cells p (suc n) =
    cells_from cells (number_on action.sends p) (number_on action.gives p)
    ∷ sent_from action cells (suc p) n

abbrev pub effect_of_outcome : Actor → ActorState → ℕ → Action → Outcome → List ℤ
    → Option (Effect ActorState)
effect_of_outcome actor x a action outcome.Done cells =
    Some (Fires (record { at = next actor x.at a; cells = take actor.kept cells })
    (sent_from action cells 0 actor.outs))
effect_of_outcome actor x a action outcome.True cells = None
effect_of_outcome actor x a action outcome.False cells = None
effect_of_outcome actor x a action (outcome.Trap cause) cells = Some (TrapsInBody cause)

abbrev pub effect_of_end : Actor → ActorState → ℕ → Action → Option End → Option (Effect ActorState)
effect_of_end actor x a action None = None
effect_of_end actor x a action (Some end) = effect_of_outcome actor x a action end.outcome end.cells

-- what the locals, the body and the outputs of an action come to
abbrev pub effect_of_body : Actor → ActorState → (ℕ → List ℤ) → ℕ → Option (Effect ActorState)
effect_of_body actor x tokens a = elim (slice_get actor.actions a) [
  | None ↦ None
  | Some action ↦
      effect_of_end actor x a action
      (end_of actor.code action.fire (cells_of actor x) (taken actor tokens a))
]

abbrev pub effect_of_exposed : Actor → ActorState → (ℕ → List ℤ) → ℕ → Guards
    → Option (Effect ActorState)
effect_of_exposed actor x tokens a AreTrue = effect_of_body actor x tokens a
effect_of_exposed actor x tokens a AreFalse = None
effect_of_exposed actor x tokens a (AreTrapping cause) = Some (TrapsInGuard cause)

abbrev pub effect : Actor → ActorState → (ℕ → List ℤ) → ℕ → Option (Effect ActorState)
effect actor x tokens a =
    if is_state actor x && is_exposed actor x tokens a
    then effect_of_exposed actor x tokens a (readiness actor x tokens a)
    else None

-- What the actor does, as networks see it.
abbrev pub behaviour : Actor → Behaviour ActorState
behaviour actor = record {
  start = start_of actor;
  ins = actor.ins;
  outs = actor.outs;
  actions = length actor.actions;
  need = need actor;
  give = give actor;
  effect = λ x tokens a. effect actor x (tokens_on tokens) a;
  choice = λ x tokens. choice actor x (tokens_on tokens);
}
