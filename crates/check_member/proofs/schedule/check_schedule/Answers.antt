use Rattle.std.proofs.Common.{◌≡◌, ◌++◌, Some, map, length, sym, ap, subst, ◌∙◌}
use Rattle.std.specs.Prelude.{IfOk, nat_le}
use Rattle.rvc_base.specs.Rules.{too_many_actions}
use Rattle.cal_ast.specs.View.{schedule_tree}
use Rattle.cal_model.specs.Actor.{Actor}
use Rattle.cal_model.specs.Sound.{max_states}
use Rattle.cal_check.specs.Schedules.{moves_in, states_of}
use Rattle.cal_check.specs.Violations.{unless}
use Rattle.check_member.specs.Judging.{Checks}
use Rattle.check_member.specs.Parts.{action_views, actor_with, move_of_step, schedule_and_states_broken, schedule_view}
use Rattle.check_member.proofs.Broken.{checks-same}
use Rattle.check_member.proofs.Mapped.{if-ok-map}
use Rattle.check_member.proofs.SameActors.{moves-same, schedule-same}
use Rattle.check_member.proofs.schedule.check_schedule.Goals as goal

pub returns-in-Some-clause-checked : goal.returns-in-Some-clause-checked
returns-in-Some-clause-checked c =
    let whole = Some (schedule_tree c.in-Some.schedule.now) in
    let acts = action_views c.args.actions.now in
    subst (λ w. (actor : Actor) → actor.actions ≡ acts → actor.states ≡ states_of w → Checks c.of_schedule.result (schedule_and_states_broken w actor c.args.at))
    (ap schedule_view (sym c.in-Some.is))
    (λ actor e f. checks-same c.of_schedule.result
    (schedule_and_states_broken whole (actor_with acts (states_of whole)) c.args.at)
    (schedule_and_states_broken whole actor c.args.at)
    (ap (λ vs. vs ++ unless (nat_le (length (states_of whole)) max_states) too_many_actions c.args.at) (schedule-same whole actor acts (states_of whole) e f))
    c.of_schedule.ensures.checked)

pub returns-in-Some-clause-moves : goal.returns-in-Some-clause-moves
returns-in-Some-clause-moves c =
    let whole = Some (schedule_tree c.in-Some.schedule.now) in
    let acts = action_views c.args.actions.now in
    subst (λ w. IfOk c.of_schedule.result (λ s. (actor : Actor) → actor.actions ≡ acts → actor.states ≡ states_of w → map move_of_step s.moves.items ≡ moves_in w actor))
    (ap schedule_view (sym c.in-Some.is))
    (if-ok-map c.of_schedule.result (λ s. map move_of_step s.moves.items ≡ moves_in whole (actor_with acts (states_of whole)))
    (λ s. (actor : Actor) → actor.actions ≡ acts → actor.states ≡ states_of whole → map move_of_step s.moves.items ≡ moves_in whole actor)
    (λ s h actor e f. h ∙ moves-same whole actor acts (states_of whole) e f)
    c.of_schedule.ensures.moves)
