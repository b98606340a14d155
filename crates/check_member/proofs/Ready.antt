-- Steps of a schedule, of which an automaton can be built.
use Rattle.std.proofs.Common.{◌≡◌, ℕ, zero, suc, ◌<◌, List, [], ◌∷◌, map, length, get_or, refl, sym, ap, subst, ◌∙◌, arith, Some, All}
use Rattle.std.specs.Prelude.{slice_get, string_bytes}
use Rattle.cal_ast.specs.View.{schedule_tree}
use Rattle.cal_ast.specs.declared.action.Schedule.{Schedule}
use Rattle.cal_model.specs.Actor.{Action, Actor, Move}
use Rattle.cal_model.specs.Sound.{Each, IsMove, IsTagged}
use Rattle.cal_model.specs.declared.bound.BoundAction.{BoundAction}
use Rattle.schedule_fsm.specs.declared.fsm.Step.{Step}
use Rattle.cal_check.specs.Schedules.{moves_in, states_of}
use Rattle.cal_check.proofs.SoundSchedules.{moves-are}
use Rattle.check_member.specs.Parts.{action_views, actor_with, move_of_step}
use Rattle.check_member.proofs.Meant.{actions-count}
use Rattle.std.specs.declared.alloc.Global.{Global}
use Rattle.std.specs.Prelude.{String}

all-steps : (P : Move → Type 0) (steps : List Step) → Each P (map move_of_step steps) → All (λ s. P (move_of_step s)) steps
all-steps P [] h k d l = absurd (omega arith)
all-steps P (s ∷ steps) h zero d l = h.0
all-steps P (s ∷ steps) h (suc k) d l = all-steps P steps h.1 k d (omega arith)

tagged-below : (acts : List Action) (a : ℕ) → IsTagged (slice_get acts a) → a < length acts
tagged-below [] a h = absurd h
tagged-below (act ∷ acts) zero h = omega arith
tagged-below (act ∷ acts) (suc a) h = let below = tagged-below acts a h in omega arith

names-count : (names : List (String Global)) → length (map string_bytes names) ≡ length names
names-count [] = refl
names-count (n ∷ names) = ap suc (names-count names)

module _ (schedule : Schedule) (actions : List BoundAction) (names : List (String Global)) (steps : List Step)
    (states : map string_bytes names ≡ states_of (Some (schedule_tree schedule)))
    (moves : map move_of_step steps ≡ moves_in (Some (schedule_tree schedule)) (actor_with (action_views actions) (states_of (Some (schedule_tree schedule))))) where
  abbrev actor : Actor
  actor = actor_with (action_views actions) (states_of (Some (schedule_tree schedule)))

  are-moves : All (λ s. IsMove actor (move_of_step s)) steps
  are-moves = all-steps (IsMove actor) steps (subst (λ ms. Each (IsMove actor) ms) (sym moves) (moves-are (Some (schedule_tree schedule)) actor refl))

  count : length (states_of (Some (schedule_tree schedule))) ≡ length names
  count = ap length (sym states) ∙ names-count names

  pub states-in-range : All (λ s. (s.from < length names) × (s.to < length names)) steps
  states-in-range k d l =
      let m = are-moves k d l in
      (subst (λ n. (get_or steps k d).from < n) count m.from, subst (λ n. (get_or steps k d).to < n) count m.to)

  pub tagged : All (λ s. IsTagged (slice_get (action_views actions) s.action)) steps
  tagged k d l = (are-moves k d l).tagged

  pub actions-in-range : All (λ s. s.action < length actions) steps
  actions-in-range k d l = subst (λ n. (get_or steps k d).action < n) (actions-count actions) (tagged-below (action_views actions) (get_or steps k d).action (tagged k d l))
