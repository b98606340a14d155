use Rattle.std.proofs.Common.{◌≡◌, ◌<◌, All, map, length, ap, sym, subst, ◌∙◌, arith}
use Rattle.std.specs.Prelude.{string_bytes, vec_len}
use Rattle.std.proofs.lemmas.List.{length-map}
use Rattle.schedule_fsm.specs.Fault.{IsCause}
use Rattle.schedule_fsm.specs.Leads.{IsFree, HasTwoTargets}
use Rattle.schedule_fsm.specs.declared.fsm.FsmFault.TheVariants.{Ambiguous}
use Rattle.cal_model.specs.Actor.{Actor}
use Rattle.cal_model.specs.Eligible.{is_empty}
use Rattle.cal_model.specs.View.{action_view, actor_of}
use Rattle.determinacy_cert.specs.Judging.{is_free, step_of}
use Rattle.determinacy_cert.proofs.Automata.{free_as, step_as, step_is}
use Rattle.determinacy_cert.proofs.Tables.{actions_in_range, automaton_is, empty_is, free_take_no_step, no_two_targets, states_in_range}
use Rattle.determinacy_cert.proofs.table.automaton.Goals as goal
use Rattle.determinacy_cert.proofs.table.automaton.Goals.{After-deref-4}

steps_are : (c : After-deref-4) → c.deref-3.result.now ≡ map step_of c.args.actor.now.moves.items
steps_are c = c.deref-3.ensures.value ∙ c.in_ok-steps.ensures ∙ ap (map step_of) c.deref.ensures.value

as_moves : (c : After-deref-4) → c.deref-3.result.now ≡ map step_as (actor_of c.args.actor.now).moves
as_moves c = steps_are c ∙ step_is c.args.actor.now.moves.items

stateless : (c : After-deref-4) → c.is_empty.result ≡ is_empty (actor_of c.args.actor.now).states
stateless c =
    let size : vec_len c.args.actor.now.states ≡ length c.args.actor.now.states.items = omega arith in
    c.is_empty.ensures ∙ empty_is string_bytes c.args.actor.now.states.items (vec_len c.args.actor.now.states) size

free_are : (c : After-deref-4) → c.deref-4.result.now ≡ map (is_free (is_empty (actor_of c.args.actor.now).states)) (actor_of c.args.actor.now).actions
free_are c =
    c.deref-4.ensures.value ∙ c.in_ok-free.ensures ∙ ap (map (λ act. is_free c.is_empty.result (action_view act))) c.deref-2.ensures.value
    ∙ free_as c.is_empty.result c.args.actor.now.actions.items
    ∙ ap (λ b. map (is_free b) (actor_of c.args.actor.now).actions) (stateless c)

pub build-requires-clause-states_in_range : goal.build-requires-clause-states_in_range
build-requires-clause-states_in_range c =
    let d : After-deref-4 = (goal.at.build-requires-clause-states_in_range c).After-deref-4 in
    subst (All (λ step. (step.from < c.args.states) × (step.to < c.args.states))) (sym (steps_are d))
    (states_in_range (actor_of c.args.actor.now) c.args.actor.now.moves.items c.requires.sound.moves c.args.states c.requires.states)

pub build-requires-clause-actions_in_range : goal.build-requires-clause-actions_in_range
build-requires-clause-actions_in_range c =
    let d : After-deref-4 = (goal.at.build-requires-clause-actions_in_range c).After-deref-4 in
    let actor : Actor = actor_of c.args.actor.now in
    subst (All (λ step. step.action < length c.deref-4.result.now)) (sym (steps_are d))
    (actions_in_range actor c.args.actor.now.moves.items c.requires.sound.moves c.deref-4.result.now
    (ap length (free_are d) ∙ length-map actor.actions (is_free (is_empty actor.states))))

pub build-requires-clause-free_take_no_step : goal.build-requires-clause-free_take_no_step
build-requires-clause-free_take_no_step c =
    let d : After-deref-4 = (goal.at.build-requires-clause-free_take_no_step c).After-deref-4 in
    subst (All (λ step. ¬ IsFree c.deref-4.result.now step.action)) (sym (steps_are d))
    (free_take_no_step (actor_of c.args.actor.now) c.args.actor.now.moves.items c.requires.sound.moves c.deref-4.result.now (free_are d))

pub returns-in-Ok-clause-automaton : goal.returns-in-Ok-clause-automaton
returns-in-Ok-clause-automaton c =
    let d : After-deref-4 = (goal.at.returns-in-Ok-clause-automaton c).After-deref-4 in
    automaton_is (actor_of c.args.actor.now) c.requires.sound.moves c.in-Ok.fsm c.deref-3.result.now c.deref-4.result.now (as_moves d) (free_are d)
    (c.in-Ok.ensures.states ∙ c.requires.states) c.in-Ok.ensures.actions
    (λ s a to in_s in_a. c.in-Ok.ensures.leads s a to (subst (λ n. s < n) (sym c.requires.states) in_s) in_a)

pub unreachable-requires : goal.unreachable-requires
unreachable-requires c =
    let d : After-deref-4 = (goal.at.unreachable-requires c).After-deref-4 in
    let cause : IsCause c.deref-3.result.now (Ambiguous c.in-Err-Ambiguous.field-0-0 c.in-Err-Ambiguous.field-0-1) =
    subst (IsCause c.deref-3.result.now) c.in-Err-Ambiguous.field-0-is c.in-Err-Ambiguous.ensures.ambiguous in
    no_two_targets (actor_of c.args.actor.now) c.in-Err-Ambiguous.field-0-0 c.in-Err-Ambiguous.field-0-1 c.requires.sound.one_target
    (subst (λ xs. HasTwoTargets xs c.in-Err-Ambiguous.field-0-0 c.in-Err-Ambiguous.field-0-1) (as_moves d) cause)
