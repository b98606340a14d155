use Rattle.std.proofs.Common.{◌≡◌, ◌∙◌, ◌<◌, ◌++◌, length, take, drop, sym, ap, subst, arith, Some}
use Rattle.std.specs.Prelude.{slice_get}
use Rattle.action_machine.specs.Kept.{IsMadeFor}
use Rattle.schedule_fsm.specs.Automaton.{Automaton, target}
use Rattle.lowered_actor.specs.Actor.{Actor, action_of}
use Rattle.lowered_actor.specs.Facts.{IsLowered}
use Rattle.net_model.specs.Cell.{FiresTo}
use Rattle.actor_cell.specs.Queues.{tokens_before, AreSent, AreTaken, AreThere}
use Rattle.actor_cell.specs.View.{core_of}
use Rattle.actor_cell.specs.Core.{Core, IsSound, seen}
use Rattle.actor_cell.specs.Acting.{HasRoomToSend, IsDone, IsToFire}
use Rattle.actor_cell.proofs.Fired.{a-low, fired-sound, fired-to, there-of, written-back}
use Rattle.actor_cell.proofs.cell.Cell.fire.Goals as goal

pub take_each-requires-clause-there : goal.take_each-requires-clause-there
take_each-requires-clause-there c =
    let old : Core = core_of c.self.inside in
    let to_fire : IsToFire old c.args.a = subst (λ core. IsToFire core c.args.a) (sym c.self.view_is) c.requires.to_fire in
    let action = action_of c.action-action.result.now in
    let there : slice_get old.actor.actions c.args.a ≡ Some action = subst (λ (actor : Actor). slice_get actor.actions c.args.a ≡ Some action) c.deref-4.ensures c.action-action.ensures in
    subst (λ qs. AreThere c.deref-5.result.now qs) (sym c.deref_mut-2.ensures.value)
    (subst (λ ns. AreThere ns old.inboxes) (sym c.deref-5.ensures.value) (there-of old c.args.a action to_fire.able there c.self.invariant.ins))

pub next-self-inside-requires-clause-action_in_range : goal.next-self-inside-requires-clause-action_in_range
next-self-inside-requires-clause-action_in_range c =
    let old : Core = core_of c.self.inside in
    let to_fire : IsToFire old c.args.a = subst (λ core. IsToFire core c.args.a) (sym c.self.view_is) c.requires.to_fire in
    let lowered : IsLowered old.actor = subst IsLowered c.deref-3.ensures c.code.ensures.facts in
    let low = a-low old c.args.a to_fire.able in
    let same : c.fsm.result.now.actions ≡ old.actor.fsm.actions = ap (λ (fsm : Automaton). fsm.actions) (c.fsm.ensures ∙ ap (λ (actor : Actor). actor.fsm) c.deref-6.ensures) in
    let count = lowered.fits.automaton in
    omega (arith, low, same, count)

pub invariant_of-self-2 : goal.invariant_of-self-2
invariant_of-self-2 c =
    let old : Core = core_of c.self.inside in
    let action = action_of c.action-action.result.now in
    let in_len : length c.take_each.new.rings ≡ c.self.inside.inboxes.len = omega (arith, c.take_each.auto.rings, c.deref_mut-2.ensures.len) in
    let out_len : length c.send_each.new.outboxes ≡ c.self.inside.outboxes.len = omega (arith, c.send_each.auto.outboxes, c.deref_mut.ensures.len) in
    let ins = written-back c.self.inside.inboxes.items c.take_each.new.rings c.self.inside.inboxes.len in_len in
    let outs = written-back c.self.inside.outboxes.items c.send_each.new.outboxes c.self.inside.outboxes.len out_len in
    let fsm_is : c.fsm.result.now ≡ old.actor.fsm = c.fsm.ensures ∙ ap (λ (actor : Actor). actor.fsm) c.deref-6.ensures in
    let sound = fired-sound old c.self.invariant c.args.a
    (subst (λ core. IsToFire core c.args.a) (sym c.self.view_is) c.requires.to_fire)
    (subst (λ core. HasRoomToSend core c.args.a) (sym c.self.view_is) c.requires.room)
    action (subst (λ (actor : Actor). slice_get actor.actions c.args.a ≡ Some action) c.deref-4.ensures c.action-action.ensures)
    c.evaluate.new.cells
    (subst (λ actor. IsDone actor old.at c.args.a (tokens_before old.inboxes) old.cells.numbers c.evaluate.new.cells.numbers) c.deref-2.ensures
    (subst (λ qs. IsDone c.deref-2.result.now old.at c.args.a (tokens_before qs) old.cells.numbers c.evaluate.new.cells.numbers) c.deref.ensures.value c.in_default.ensures.done))
    (subst (λ (actor : Actor). IsMadeFor actor.code c.evaluate.new.cells) c.deref-2.ensures c.evaluate.ensures.made)
    c.send_each.new.outboxes (subst (λ qs. AreSent action c.evaluate.new.cells.numbers qs c.send_each.new.outboxes) c.deref_mut.ensures.value c.send_each.ensures)
    c.take_each.new.rings
    (subst (λ qs. AreTaken action.needs qs c.take_each.new.rings) c.deref_mut-2.ensures.value
    (subst (λ ns. AreTaken ns c.deref_mut-2.result.now c.take_each.new.rings) c.deref-5.ensures.value c.take_each.ensures))
    c.next-self-inside.result (subst (λ fsm. target fsm old.at c.args.a ≡ Some c.next-self-inside.result) fsm_is c.next-self-inside.ensures.follows)
    (subst (λ (fsm : Automaton). c.next-self-inside.result < fsm.states) fsm_is c.next-self-inside.ensures.in_range) in
    subst (λ qs. IsSound (record old {
      at = c.next-self-inside.result;
      cells = c.evaluate.new.cells;
      inboxes = qs;
      outboxes = take c.self.inside.outboxes.len (c.send_each.new.outboxes ++ drop (length c.send_each.new.outboxes) c.self.inside.outboxes.items);
    })) (sym ins)
    (subst (λ qs. IsSound (record old { at = c.next-self-inside.result; cells = c.evaluate.new.cells; inboxes = c.take_each.new.rings; outboxes = qs })) (sym outs) sound)

pub returns-clause-fired : goal.returns-clause-fired
returns-clause-fired c =
    let old : Core = core_of c.self.inside in
    let action = action_of c.action-action.result.now in
    let in_len : length c.take_each.new.rings ≡ c.self.inside.inboxes.len = omega (arith, c.take_each.auto.rings, c.deref_mut-2.ensures.len) in
    let out_len : length c.send_each.new.outboxes ≡ c.self.inside.outboxes.len = omega (arith, c.send_each.auto.outboxes, c.deref_mut.ensures.len) in
    let ins = written-back c.self.inside.inboxes.items c.take_each.new.rings c.self.inside.inboxes.len in_len in
    let outs = written-back c.self.inside.outboxes.items c.send_each.new.outboxes c.self.inside.outboxes.len out_len in
    let fsm_is : c.fsm.result.now ≡ old.actor.fsm = c.fsm.ensures ∙ ap (λ (actor : Actor). actor.fsm) c.deref-6.ensures in
    let fires = fired-to old c.self.invariant c.args.a
    (subst (λ core. IsToFire core c.args.a) (sym c.self.view_is) c.requires.to_fire)
    (subst (λ core. HasRoomToSend core c.args.a) (sym c.self.view_is) c.requires.room)
    action (subst (λ (actor : Actor). slice_get actor.actions c.args.a ≡ Some action) c.deref-4.ensures c.action-action.ensures)
    c.evaluate.new.cells
    (subst (λ actor. IsDone actor old.at c.args.a (tokens_before old.inboxes) old.cells.numbers c.evaluate.new.cells.numbers) c.deref-2.ensures
    (subst (λ qs. IsDone c.deref-2.result.now old.at c.args.a (tokens_before qs) old.cells.numbers c.evaluate.new.cells.numbers) c.deref.ensures.value c.in_default.ensures.done))
    (subst (λ (actor : Actor). IsMadeFor actor.code c.evaluate.new.cells) c.deref-2.ensures c.evaluate.ensures.made)
    c.send_each.new.outboxes (subst (λ qs. AreSent action c.evaluate.new.cells.numbers qs c.send_each.new.outboxes) c.deref_mut.ensures.value c.send_each.ensures)
    c.take_each.new.rings
    (subst (λ qs. AreTaken action.needs qs c.take_each.new.rings) c.deref_mut-2.ensures.value
    (subst (λ ns. AreTaken ns c.deref_mut-2.result.now c.take_each.new.rings) c.deref-5.ensures.value c.take_each.ensures))
    c.next-self-inside.result (subst (λ fsm. target fsm old.at c.args.a ≡ Some c.next-self-inside.result) fsm_is c.next-self-inside.ensures.follows)
    (subst (λ (fsm : Automaton). c.next-self-inside.result < fsm.states) fsm_is c.next-self-inside.ensures.in_range) in
    subst (λ core. FiresTo (seen core) c.args.a (seen (record old {
      at = c.next-self-inside.result;
      cells = c.evaluate.new.cells;
      inboxes = take c.self.inside.inboxes.len (c.take_each.new.rings ++ drop (length c.take_each.new.rings) c.self.inside.inboxes.items);
      outboxes = take c.self.inside.outboxes.len (c.send_each.new.outboxes ++ drop (length c.send_each.new.outboxes) c.self.inside.outboxes.items);
    }))) c.self.view_is
    (subst (λ qs. FiresTo (seen old) c.args.a (seen (record old {
      at = c.next-self-inside.result;
      cells = c.evaluate.new.cells;
      inboxes = qs;
      outboxes = take c.self.inside.outboxes.len (c.send_each.new.outboxes ++ drop (length c.send_each.new.outboxes) c.self.inside.outboxes.items);
    }))) (sym ins)
    (subst (λ qs. FiresTo (seen old) c.args.a (seen (record old { at = c.next-self-inside.result; cells = c.evaluate.new.cells; inboxes = c.take_each.new.rings; outboxes = qs }))) (sym outs) fires))
