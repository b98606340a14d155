use Rattle.std.proofs.Common.{◌≡◌, ◌<◌, ◌≤◌, All, false, length, map, refl, sym, ap, subst, ◌∙◌, arith}
use Rattle.std.specs.Prelude.{◌↔◌, Some}
use Rattle.std.proofs.lemmas.List.{length-map}
use Rattle.std.proofs.lemmas.List.Elements.{All-replicate}
use Rattle.schedule_fsm.specs.Automaton.{target}
use Rattle.schedule_fsm.specs.Fault.{IsCause}
use Rattle.schedule_fsm.specs.Leads.{HasTwoTargets, Leads}
use Rattle.schedule_fsm.specs.declared.fsm.FsmFault.TheVariants.{Ambiguous}
use Rattle.cal_model.specs.Eligible.{fresh, has_initialize}
use Rattle.cal_model.specs.View.{action_view, actor_of}
use Rattle.lower_tables.specs.Steps.{all_steps, state_total}
use Rattle.lower_tables.proofs.Stateful.{first-states}
use Rattle.lower_tables.proofs.Stepping.{actions_in_range, no_two_targets, schedule_is, states_in_range, total_wide}
use Rattle.lower_tables.proofs.schedule.automaton.Goals as goal
use Rattle.lower_tables.proofs.schedule.automaton.Goals.{After-deref-3}

steps_are : (c : After-deref-3) → c.deref-2.result.now ≡ all_steps (actor_of c.args.b.now) c.state_total-states.result
steps_are c = c.deref-2.ensures.value ∙ c.in_ok-steps.ensures

first_is : (c : After-deref-3) → c.state_count-first.result ≡ fresh (actor_of c.args.b.now)
first_is c =
    let size : c.len.result ≡ length c.args.b.now.states.items = omega arith in
    c.state_count-first.ensures ∙ first-states c.args.b.now c.len.result size

total_is : (c : After-deref-3) → c.state_total-states.result ≡ state_total (fresh (actor_of c.args.b.now)) (has_initialize (actor_of c.args.b.now).actions)
total_is c =
    c.state_total-states.ensures ∙ ap (λ k. state_total k c.has_initialize.result) (first_is c)
    ∙ ap (state_total (fresh (actor_of c.args.b.now))) (c.has_initialize.ensures ∙ ap (λ xs. has_initialize (map action_view xs)) c.deref.ensures.value)

wide : (c : After-deref-3) → fresh (actor_of c.args.b.now) ≤ c.state_total-states.result
wide c = subst (λ n. fresh (actor_of c.args.b.now) ≤ n) (sym (total_is c)) (total_wide (fresh (actor_of c.args.b.now)) (has_initialize (actor_of c.args.b.now).actions))

many : (c : After-deref-3) → length c.deref-3.result.now ≡ length (actor_of c.args.b.now).actions
many c =
    let size : c.len-2.result ≡ length c.args.b.now.actions.items = omega arith in
    c.deref-3.ensures.len ∙ c.in_ok-free.ensures.len ∙ size ∙ sym (length-map c.args.b.now.actions.items action_view)

none_free : (c : After-deref-3) → All (λ b. b ≡ false) c.deref-3.result.now
none_free c =
    subst (All (λ b. b ≡ false)) (sym (c.deref-3.ensures.value ∙ c.in_ok-free.ensures.items_if_clones_equal (λ y e. e))) (All-replicate (λ b. b ≡ false) c.len-2.result false refl)

pub build-requires-clause-states_in_range : goal.build-requires-clause-states_in_range
build-requires-clause-states_in_range c =
    let d : After-deref-3 = (goal.at.build-requires-clause-states_in_range c).After-deref-3 in
    subst (All (λ step. (step.from < c.state_total-states.result) × (step.to < c.state_total-states.result))) (sym (steps_are d))
    (states_in_range (actor_of c.args.b.now) c.requires.sound.moves c.requires.sound.one_target c.state_total-states.result (wide d))

pub build-requires-clause-actions_in_range : goal.build-requires-clause-actions_in_range
build-requires-clause-actions_in_range c =
    let d : After-deref-3 = (goal.at.build-requires-clause-actions_in_range c).After-deref-3 in
    subst (All (λ step. step.action < length c.deref-3.result.now)) (sym (steps_are d))
    (actions_in_range (actor_of c.args.b.now) c.requires.sound.moves c.requires.sound.one_target c.state_total-states.result (length c.deref-3.result.now) (wide d) (many d))

pub returns-in-Ok : goal.returns-in-Ok
returns-in-Ok c =
    let d : After-deref-3 = (goal.at.returns-in-Ok c).After-deref-3 in
    record {
      schedule = schedule_is (actor_of c.args.b.now) c.requires.sound.moves c.requires.sound.one_target c.in-Ok.fsm c.deref-3.result.now c.state_total-states.result
          (total_is d) c.in-Ok.ensures.states c.in-Ok.ensures.actions (many d) (none_free d)
          (λ s a to in_s in_a.
          subst (λ xs. (target c.in-Ok.fsm s a ≡ Some to) ↔ Leads xs c.deref-3.result.now s a to) (steps_are d) (c.in-Ok.ensures.leads s a to in_s in_a));
    }

pub unreachable-requires : goal.unreachable-requires
unreachable-requires c =
    let d : After-deref-3 = (goal.at.unreachable-requires c).After-deref-3 in
    let cause : IsCause c.deref-2.result.now (Ambiguous c.in-Err-Ambiguous.field-0-0 c.in-Err-Ambiguous.field-0-1) =
    subst (IsCause c.deref-2.result.now) c.in-Err-Ambiguous.field-0-is c.in-Err-Ambiguous.ensures.ambiguous in
    no_two_targets (actor_of c.args.b.now) c.requires.sound.moves c.requires.sound.one_target c.state_total-states.result c.in-Err-Ambiguous.field-0-0 c.in-Err-Ambiguous.field-0-1
    (subst (λ xs. HasTwoTargets xs c.in-Err-Ambiguous.field-0-0 c.in-Err-Ambiguous.field-0-1) (steps_are d) cause)
