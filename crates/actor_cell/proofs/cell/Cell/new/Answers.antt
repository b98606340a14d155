use Rattle.std.proofs.Common.{◌≡◌, ◌∙◌, ◌<◌, ap, sym, subst, refl, false}
use Rattle.std.specs.Prelude.{vec_capacity}
use Rattle.std.specs.Arc.{arc_value}
use Rattle.action_machine.specs.Kept.{IsMadeFor}
use Rattle.lowered_actor.specs.Actor.{Actor}
use Rattle.lowered_actor.specs.Facts.{IsLowered}
use Rattle.lowered_actor.specs.Meaning.{start_of}
use Rattle.guard_select.specs.Selecting.{state_of}
use Rattle.actor_cell.specs.Core.{Core, state_in}
use Rattle.actor_cell.proofs.Fresh.{fresh-within}
use Rattle.actor_cell.proofs.Moved.{at-start}
use Rattle.actor_cell.proofs.cell.Cell.new.Goals as goal

pub invariant_of-result : goal.invariant_of-result
invariant_of-result c = record {
  made = subst (λ (actor : Actor). IsMadeFor actor.code c.in_ok-cells.cells) c.deref-2.ensures c.in_ok-cells.ensures.made;
  state =
      let lowered : IsLowered (arc_value c.args.code) = subst IsLowered c.deref.ensures c.code-code.ensures.facts in
      subst (λ s. s < (arc_value c.args.code).fsm.states) (sym (c.start.ensures ∙ ap (λ (actor : Actor). actor.start) c.deref-3.ensures)) lowered.fits.start;
  ins = c.in_ok-inboxes.ensures.size ∙ c.requires.ins;
  outs = c.in_ok-outboxes.ensures.size ∙ c.requires.outs;
  waiting = fresh-within _ _ c.in_ok-inboxes.ensures;
  sent = fresh-within _ _ c.in_ok-outboxes.ensures;
}

pub returns : goal.returns
returns c =
    let actor : Actor = arc_value c.args.code in
    let core : Core = record {
      actor = actor;
      at = c.start.result;
      cells = c.in_ok-cells.cells;
      inboxes = c.in_ok-inboxes.inboxes.items;
      outboxes = c.in_ok-outboxes.outboxes.items;
      journal = c.in_ok-journal.journal.items;
      journal_room = vec_capacity c.in_ok-journal.journal;
      trapped = false;
    } in
    let start : c.start.result ≡ actor.start = c.start.ensures ∙ ap (λ (one : Actor). one.start) c.deref-3.ensures in
    let first : c.in_ok-cells.cells.numbers ≡ actor.first = c.in_ok-cells.ensures.first ∙ ap (λ (one : Actor). one.first) c.deref-2.ensures in
    let state : state_in core ≡ start_of actor =
    ap (λ at. state_of actor at c.in_ok-cells.cells.numbers) start ∙ ap (state_of actor actor.start) first in
    at-start core c.args.in_caps.now c.args.out_caps.now c.args.burst state c.in_ok-inboxes.ensures c.in_ok-outboxes.ensures c.requires.ins c.requires.outs
    c.in_ok-journal.ensures.items c.in_ok-journal.ensures.exact refl
