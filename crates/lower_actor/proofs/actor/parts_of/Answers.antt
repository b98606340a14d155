use Rattle.std.proofs.Common.{◌≡◌, ◌∙◌, Bool, ap, arith, refl, subst, sym}
use Rattle.std.proofs.lemmas.List.{length-map}
use Rattle.cal_model.specs.View.{action_view, actor_of, port_view}
use Rattle.lower_base.specs.Callees.{functions_view}
use Rattle.lower_stmt.specs.Procedures.{routines_of}
use Rattle.lowered_actor.specs.declared.parts.Parts.{Parts}
use Rattle.lowered_actor.specs.Actor.{actor_of as parts_view}
use Rattle.lower_actor.specs.ClearedBodies.{ClearsActions}
use Rattle.lower_actor.specs.Coded.{AreBodiesOf, AreCodedActions, all_entries}
use Rattle.lower_actor.specs.Faults.{IsActorFault}
use Rattle.lower_actor.proofs.AllowedEntries.{made-all}
use Rattle.lower_actor.proofs.Chosen.{is-whole, parts-why, served-same, whole-why, why-err}
use Rattle.lower_actor.proofs.ClearedMade.{routine-bodies, routines-later}
use Rattle.lower_actor.proofs.ClearedStand.{all-stand}
use Rattle.lower_actor.proofs.Rowed.{bodies-of}
use Rattle.lower_actor.proofs.Together.{parts-fit}
use Rattle.lower_actor.proofs.Tabled.{parts-stand}
use Rattle.lower_actor.proofs.actor.parts_of.Goals as goal

pub returns-clause-parts : goal.returns-clause-parts
returns-clause-parts c =
    let tables = c.in_ok-tables.ensures in
    let parts : Parts = record {
      code = c.in_ok-code.code;
      fsm = c.in_ok-tables.tables.fsm;
      order = c.in_ok-tables.tables.order;
      actions = c.in_ok-actions.actions;
      first = c.in_ok-first.first;
      kept = c.in_ok-tables.tables.kept;
      start = c.in_ok-tables.tables.start;
      saved = c.in_ok-tables.tables.saved;
      ins = c.in_ok-tables.tables.ins;
      outs = c.in_ok-tables.tables.outs;
    } in
    let entries : c.in_ok-code.code.entries ≡ all_entries c.in_ok-actions.actions.items = c.in_ok-code.ensures.entries ∙ ap all_entries c.deref-4.ensures.value in
    record {
      fits = parts-fit c.args.b.now parts c.lower_actions.new.draft tables.schedule tables.priority c.in_ok-actions.ensures.coded c.in_ok-code.ensures.code entries tables.ins tables.outs
          (c.in_ok-first.ensures.size ∙ c.cells.ensures) tables.begins
          (let state = c.in_ok-called.ensures.served.state in
          let below = c.in_ok-called.ensures.served.below in
          let le = c.in_ok-actions.ensures.more.cells in
          let same = c.in_ok-code.ensures.code.cells in
          let kept = tables.kept in
          omega (arith, state, below, le, same, kept)) tables.inside tables.apart tables.sizes;
      actions = c.in_ok-actions.ensures.coded.count ∙ sym (length-map c.args.b.now.actions.items action_view);
      stand = λ facts.
          parts-stand c.args.b.now parts c.lower_actions.new.draft tables.schedule tables.start tables.priority c.in_ok-actions.ensures.coded tables.kept tables.saved tables.ins tables.outs
          (parts_view parts) (record { same = refl; facts = facts }) c.requires.sound c.in_ok-code.ensures.code c.in_ok-first.ensures.first
          c.tables_are_meant.ensures.rates c.runs_suffice.ensures.guards c.runs_suffice.ensures.firings c.lowered_actors_behave_as_meant.ensures;
    }

pub returns-clause-stand : goal.returns-clause-stand
returns-clause-stand c = λ clear.
    let tables = c.in_ok-tables.ensures in
    let actor = actor_of c.args.b.now in
    let fs = functions_view c.deref.result.now in
    let parts : Parts = record {
      code = c.in_ok-code.code;
      fsm = c.in_ok-tables.tables.fsm;
      order = c.in_ok-tables.tables.order;
      actions = c.in_ok-actions.actions;
      first = c.in_ok-first.first;
      kept = c.in_ok-tables.tables.kept;
      start = c.in_ok-tables.tables.start;
      saved = c.in_ok-tables.tables.saved;
      ins = c.in_ok-tables.tables.ins;
      outs = c.in_ok-tables.tables.outs;
    } in
    let served =
    served-same actor c.in_ok-called.called.callees.items c.deref.result.now c.in_ok-called.called.procedures.items c.deref-2.result.now c.lower_routines.new.draft
    c.deref.ensures.value c.deref-2.ensures.value c.in_ok-called.ensures.served in
    let made = made-all actor c.requires.sound (routines_of c.deref.result.now c.deref-2.result.now) c.lower_routines.new.draft c.lower_actions.new.draft c.in_ok-code.code served c.in_ok-actions.ensures.more c.in_ok-code.ensures.code in
    all-stand actor (parts_view parts) c.lower_actions.new.draft c.in_ok-code.ensures.code c.in_ok-actions.actions.items refl (tables.outs ∙ sym (length-map c.args.b.now.outs.items port_view))
    (subst (λ n. AreCodedActions actor n c.in_ok-actions.actions.items c.lower_actions.new.draft) (sym (length-map c.args.b.now.actions.items action_view)) c.in_ok-actions.ensures.coded)
    fs c.lower_routines.new.draft.cells tables.kept tables.saved
    (subst (λ (b : Bool). ClearsActions b actor fs c.lower_routines.new.draft.cells c.in_ok-actions.actions.items c.lower_actions.new.draft) clear c.in_ok-actions.ensures.cleared)
    (routines-later c.lower_routines.new.draft c.lower_actions.new.draft c.lower_routines.new.draft.cells c.in_ok-actions.ensures.more (routine-bodies c.lower_routines.new.draft c.in_ok-called.ensures.bodies)) made.0 made.1

pub lower_actions-requires-clause-served : goal.lower_actions-requires-clause-served
lower_actions-requires-clause-served c =
    served-same (actor_of c.args.b.now) c.in_ok-called.called.callees.items c.deref.result.now c.in_ok-called.called.procedures.items c.deref-2.result.now c.lower_routines.new.draft
    c.deref.ensures.value c.deref-2.ensures.value c.in_ok-called.ensures.served

pub returns-in_err-actions-clause-fault : goal.returns-in_err-actions-clause-fault
returns-in_err-actions-clause-fault c =
    why-err c.from_residual-in_err-actions.result _ (IsActorFault c.args.b.now) c.from_residual-in_err-actions.ensures.1
    (λ e is. subst (IsActorFault c.args.b.now) (sym is)
    (whole-why c.args.b.now c.in_ok-called.called.callees.items c.deref.result.now c.in_ok-called.called.procedures.items c.deref-2.result.now c.deref.ensures.value c.deref-2.ensures.value c.in_ok-called.ensures.settled
    c.in_err-actions.field-0.0 c.in_err-actions.ensures.fault))

pub admitted-requires : goal.admitted-requires
admitted-requires c = record {
  bodies = subst (λ xs. AreBodiesOf xs c.lower_actions.new.draft) (sym c.deref-4.ensures.value)
      (bodies-of c.in_ok-actions.actions.items c.lower_routines.new.draft c.lower_actions.new.draft c.in_ok-called.ensures.bodies c.in_ok-actions.ensures.more c.in_ok-actions.ensures.bodies);
}

pub returns-in_err-code-clause-fault : goal.returns-in_err-code-clause-fault
returns-in_err-code-clause-fault c =
    why-err c.from_residual-in_err-code.result _ (IsActorFault c.args.b.now) c.from_residual-in_err-code.ensures.1
    (λ e is. subst (IsActorFault c.args.b.now) (sym is) (parts-why c.args.b.now c.in_err-code.field-0.0 c.in_err-code.ensures.fault))

pub returns-in_err-called-clause-fault : goal.returns-in_err-called-clause-fault
returns-in_err-called-clause-fault c =
    why-err c.from_residual-in_err-called.result _ (IsActorFault c.args.b.now) c.from_residual-in_err-called.ensures.1
    (λ e is. subst (IsActorFault c.args.b.now) (sym is) (parts-why c.args.b.now c.in_err-called.field-0.0 c.in_err-called.ensures.fault))

pub returns-clause-whole : goal.returns-clause-whole
returns-clause-whole c =
    is-whole c.args.b.now c.in_ok-called.called.callees.items c.deref.result.now c.in_ok-called.called.procedures.items c.deref-2.result.now c.deref.ensures.value c.deref-2.ensures.value c.in_ok-called.ensures.settled
    c.in_ok-actions.ensures.whole

pub first_numbers-requires : goal.first_numbers-requires
first_numbers-requires c = record {
  sound = c.requires.sound;
  room =
      let state = c.in_ok-called.ensures.served.state in
      let below = c.in_ok-called.ensures.served.below in
      let le = c.in_ok-actions.ensures.more.cells in
      let same = c.in_ok-code.ensures.code.cells in
      let is = c.cells.ensures in
      omega (arith, state, below, le, same, is);
}
