use Rattle.std.proofs.Common.{◌≡◌, ◌<◌, [], arith, length, rules, subst, sym}
use Rattle.cal_model.specs.View.{actor_of}
use Rattle.lower_base.specs.Callees.{functions_view}
use Rattle.lower_stmt.specs.Procedures.{routines_of}
use Rattle.lower_actor.specs.Coded.{AddsBodies, AreCodedActions, all_entries}
use Rattle.lower_actor.specs.Faults.{IsWhyActions}
use Rattle.lower_actor.specs.ClearedBodies.{ClearsActions}
use Rattle.lower_actor.proofs.ClearedMade.{clears-more, none-cleared}
use Rattle.lower_actor.proofs.Chosen.{why-actions, why-err}
use Rattle.lower_actor.proofs.Extending.{more-again, served-more}
use Rattle.lower_actor.proofs.Placed.{more-coded, no-actions, no-more, whole-more}
use Rattle.lower_actor.proofs.Rowed.{actions-bodies, no-bodies}
use Rattle.lower_actor.proofs.actions.lower_actions.Goals as goal

pub loop-action-init : goal.loop-action-init
loop-action-init c =
    let none : c.new-actions.result.items ≡ [] = search rules in (
      subst (λ xs. AreCodedActions (actor_of c.args.b.now) 0 xs c.args.draft.now) (sym none) (no-actions (actor_of c.args.b.now) c.args.draft.now),
      c.requires.served,
      no-more c.args.draft.now,
      subst (λ xs. AddsBodies (all_entries xs) c.args.draft.now c.args.draft.now) (sym none) (no-bodies c.args.draft.now),
      λ a low. absurd (omega (arith, low)),
      subst (λ xs. ClearsActions c.args.clear (actor_of c.args.b.now) (functions_view c.args.callees.now) c.args.draft.now.cells xs c.args.draft.now) (sym none)
          (none-cleared c.args.clear (actor_of c.args.b.now) (functions_view c.args.callees.now) c.args.draft.now.cells c.args.draft.now),
    )

pub loop-action-preserved : goal.loop-action-preserved
loop-action-preserved c = (
  more-coded (actor_of c.args.b.now) c.loop-action.action c.loop-action.actions.items c.push.new.self.items c.in_ok-coded.coded c.loop-action.draft c.lower_action.new.draft
      c.loop-action.invariant.0 c.in_ok-coded.ensures.more c.in_ok-coded.ensures.coded c.in_ok-push.ensures.items,
  served-more (actor_of c.args.b.now) (routines_of c.args.callees.now c.args.procedures.now) c.loop-action.draft c.lower_action.new.draft c.in_ok-coded.ensures.more c.loop-action.invariant.1,
  more-again c.args.draft.now c.loop-action.draft c.lower_action.new.draft c.loop-action.invariant.2 c.in_ok-coded.ensures.more,
  actions-bodies c.loop-action.actions.items c.push.new.self.items c.in_ok-coded.coded c.args.draft.now c.loop-action.draft c.lower_action.new.draft
      c.in_ok-push.ensures.items c.in_ok-coded.ensures.more c.loop-action.invariant.3 c.in_ok-coded.ensures.bodies,
  whole-more (routines_of c.args.callees.now c.args.procedures.now) c.args.b.now c.loop-action.action c.loop-action.invariant.4 c.in_ok-coded.ensures.whole,
  clears-more c.args.clear (actor_of c.args.b.now) (functions_view c.args.callees.now) c.args.draft.now.cells c.loop-action.action c.loop-action.actions.items c.push.new.self.items c.in_ok-coded.coded c.loop-action.draft c.lower_action.new.draft
      c.loop-action.invariant.0.count c.loop-action.invariant.2.cells c.in_ok-coded.ensures.more c.loop-action.invariant.5 c.in_ok-coded.ensures.cleared c.in_ok-push.ensures.items,
)

pub returns-in_err-coded-clause-fault : goal.returns-in_err-coded-clause-fault
returns-in_err-coded-clause-fault c =
    let low : c.loop-action.action < length c.args.b.now.actions.items = search rules in
    why-err c.from_residual.result _ (IsWhyActions (routines_of c.args.callees.now c.args.procedures.now) c.args.b.now) c.from_residual.ensures.1
    (λ mine is. why-actions (routines_of c.args.callees.now c.args.procedures.now) c.args.b.now c.loop-action.action c.in_err-coded.field-0.0 mine is low c.loop-action.invariant.4 c.in_err-coded.ensures.fault)
