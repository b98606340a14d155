use Rattle.std.proofs.Common.{◌≡◌, ◌≤◌, ◌<◌, [], Some, map, length, sym, ap, subst, ◌∙◌}
use Rattle.std.specs.Prelude.{string_bytes}
use Rattle.cal_ast.specs.View.{schedule_tree}
use Rattle.cal_model.specs.Sound.{max_states}
use Rattle.cal_check.specs.Schedules.{moves_broken, moves_in, moves_listed, states_of, transitions_of}
use Rattle.check_member.specs.Judging.{Refuses}
use Rattle.check_member.specs.Parts.{action_views, actor_with, move_of_step, schedule_and_states_broken, transitions_tree}
use Rattle.check_member.proofs.Moves.{schedule-fine, schedule-refused}
use Rattle.check_member.proofs.Ready.{actions-in-range, states-in-range, tagged}
use Rattle.check_member.proofs.schedule.of_schedule.Goals as goal

pub returns-then-count-gt-MAX_STATES-clause-checked : goal.returns-then-count-gt-MAX_STATES-clause-checked
returns-then-count-gt-MAX_STATES-clause-checked c =
    let s = c.args.schedule.now in
    let acts = action_views c.args.actions.now in
    let many : max_states < length (states_of (Some (schedule_tree s))) =
    subst (λ n. max_states < n) (c.count.ensures ∙ ap length c.in_ok-states.ensures.states) c.if-count-gt-MAX_STATES.true in
    subst (λ f. Refuses f (schedule_and_states_broken (Some (schedule_tree s)) (actor_with acts (states_of (Some (schedule_tree s)))) c.args.at)) (sym c.broken.ensures)
    (schedule-refused s (actor_with acts (states_of (Some (schedule_tree s)))) c.args.at many)

states-are : (c : goal.After-drop-states-inside-5) → map string_bytes c.in_ok-copied.field-0.items ≡ states_of (Some (schedule_tree c.args.schedule.now))
states-are c = c.in_ok-copied.ensures ∙ c.names.ensures ∙ c.in_ok-states.ensures.states

moves-are : (c : goal.After-drop-states-inside-5) → map move_of_step c.in_ok-moves.moves.items
    ≡ moves_in (Some (schedule_tree c.args.schedule.now)) (actor_with (action_views c.args.actions.now) (states_of (Some (schedule_tree c.args.schedule.now))))
moves-are c =
    let acts = action_views c.args.actions.now in
    c.in_ok-moves.ensures.moves
    ∙ ap (λ ms. moves_listed (actor_with acts c.in_ok-states.states) (transitions_of (transitions_tree ms))) c.deref.ensures.value
    ∙ ap (λ ns. moves_listed (actor_with acts ns) (transitions_of (transitions_tree c.args.schedule.now.moves.items))) c.in_ok-states.ensures.states

pub returns : goal.returns
returns c =
    let s = c.args.schedule.now in
    let acts = action_views c.args.actions.now in
    let few : length (states_of (Some (schedule_tree s))) ≤ max_states =
    subst (λ n. n ≤ max_states) (c.count.ensures ∙ ap length c.in_ok-states.ensures.states) c.if-count-gt-MAX_STATES.false in
    let names = c.in_ok-copied.field-0.items in
    let steps = c.in_ok-moves.moves.items in
    record {
      checked = schedule-fine s (actor_with acts (states_of (Some (schedule_tree s)))) c.args.at
          (ap (λ ns. moves_broken (transitions_tree s.moves.items) [] (actor_with acts ns)) (sym c.in_ok-states.ensures.states)
          ∙ ap (λ ms. moves_broken (transitions_tree ms) [] (actor_with acts c.in_ok-states.states)) (sym c.deref.ensures.value)
          ∙ c.in_ok-moves.ensures.checked) few;
      states = states-are c;
      moves = moves-are c;
      states_in_range = states-in-range s c.args.actions.now names steps (states-are c) (moves-are c);
      actions_in_range = actions-in-range s c.args.actions.now names steps (states-are c) (moves-are c);
      tagged = tagged s c.args.actions.now names steps (states-are c) (moves-are c);
    }
