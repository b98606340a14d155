use Rattle.std.proofs.Common.{◌∷◌, ◌∙◌, [], ap, arith, length, length-append, refl, subst}
use Rattle.cal_model.specs.View.{actor_of}
use Rattle.code_ir.specs.declared.instr.Instr.TheVariants as op
use Rattle.lower_stmt.specs.Procedures.{routines_of}
use Rattle.lower_actor.specs.Coded.{IsMore}
use Rattle.action_lower.specs.GuardWords.{SetsZero}
use Rattle.lower_actor.proofs.ClearedMade.{firing-from}
use Rattle.lower_actor.proofs.Cleared.{cleared-bodies, cleared-fires, cleared-more}
use Rattle.lower_actor.proofs.Inside.{firing-inside}
use Rattle.lower_actor.proofs.Placed.{action-there, firing-grown}
use Rattle.lower_actor.proofs.firings.put_cleared.Goals as goal

pub clear_at-requires-clause-inside : goal.clear_at-requires-clause-inside
clear_at-requires-clause-inside c =
    let at = c.in_ok-entry.ensures.place in
    let first = ap length c.in_ok-put.ensures.added.is ∙ length-append c.args.draft.now.instrs.items (op.Zero 0 0 ∷ []) in
    let more : IsMore c.put.new.draft c.lower_firing.new.draft = firing-grown c.args.b.now c.args.action c.requires.action (routines_of c.args.callees.now c.args.procedures.now) c.in_ok-firing.firing.entry c.in_ok-firing.firing.firsts.items c.put.new.draft c.lower_firing.new.draft
    c.in_ok-firing.ensures.code in
    let second = ap length more.is ∙ length-append c.put.new.draft.instrs.items more.code in
    omega (arith, at, first, second)

pub clear_at-requires-clause-cells : goal.clear_at-requires-clause-cells
clear_at-requires-clause-cells c =
    let more : IsMore c.put.new.draft c.lower_firing.new.draft = firing-grown c.args.b.now c.args.action c.requires.action (routines_of c.args.callees.now c.args.procedures.now) c.in_ok-firing.firing.entry c.in_ok-firing.firing.firsts.items c.put.new.draft c.lower_firing.new.draft
    c.in_ok-firing.ensures.code in
    let le = more.cells in
    let same = c.in_ok-put.ensures.added.cells in
    let kept = c.requires.kept in
    let state = c.requires.served.state in
    let below = c.requires.served.below in
    omega (arith, le, same, kept, state, below)

pub returns-clause-puts : goal.returns-clause-puts
returns-clause-puts c = record {
  fires =
      cleared-fires (actor_of c.args.b.now) c.args.action (routines_of c.args.callees.now c.args.procedures.now) c.in_ok-entry.entry c.in_ok-firing.firing.firsts.items c.args.draft.now c.put.new.draft c.lower_firing.new.draft
      c.clear_at.new.draft c.requires.sound c.requires.served c.in_ok-entry.ensures.place c.in_ok-put.ensures.added.is c.in_ok-put.ensures.added.routines c.in_ok-put.ensures.added.cells (refl, c.in_ok-firing.ensures.code.1) c.in_ok-firing.ensures.fired
      (subst (λ k. SetsZero c.lower_firing.new.draft.instrs.items c.clear_at.new.draft.instrs.items c.in_ok-entry.entry k c.lower_firing.new.draft.cells) c.requires.kept c.clear_at.ensures.clears) c.clear_at.ensures.routines
      c.clear_at.ensures.cells;
  bodies =
      let there = action-there c.args.b.now c.args.action c.requires.action in
      cleared-bodies (actor_of c.args.b.now) c.args.action (routines_of c.args.callees.now c.args.procedures.now) c.in_ok-entry.entry c.in_ok-firing.firing.firsts.items c.args.draft.now c.put.new.draft c.lower_firing.new.draft
      c.clear_at.new.draft c.requires.sound c.requires.served c.in_ok-entry.ensures.place c.in_ok-put.ensures.added.is c.in_ok-put.ensures.added.routines c.in_ok-put.ensures.added.cells (refl, c.in_ok-firing.ensures.code.1) c.in_ok-firing.ensures.fired
      (subst (λ k. SetsZero c.lower_firing.new.draft.instrs.items c.clear_at.new.draft.instrs.items c.in_ok-entry.entry k c.lower_firing.new.draft.cells) c.requires.kept c.clear_at.ensures.clears) c.clear_at.ensures.routines
      c.clear_at.ensures.cells there.0 there.1;
  inside = λ act port e.
      let inside =
      firing-inside (routines_of c.args.callees.now c.args.procedures.now) (actor_of c.args.b.now) c.args.action c.in_ok-firing.firing.entry c.in_ok-firing.firing.firsts.items c.put.new.draft c.lower_firing.new.draft
      c.in_ok-firing.ensures.code act port e in
      let same = c.clear_at.ensures.cells in
      omega (arith, inside, same);
}

pub returns-clause-more : goal.returns-clause-more
returns-clause-more c =
    let there = action-there c.args.b.now c.args.action c.requires.action in
    cleared-more (actor_of c.args.b.now) c.args.action (routines_of c.args.callees.now c.args.procedures.now) c.in_ok-entry.entry c.in_ok-firing.firing.firsts.items c.args.draft.now c.put.new.draft c.lower_firing.new.draft
    c.clear_at.new.draft c.requires.sound c.requires.served c.in_ok-entry.ensures.place c.in_ok-put.ensures.added.is c.in_ok-put.ensures.added.routines c.in_ok-put.ensures.added.cells (refl, c.in_ok-firing.ensures.code.1) c.in_ok-firing.ensures.fired
    (subst (λ k. SetsZero c.lower_firing.new.draft.instrs.items c.clear_at.new.draft.instrs.items c.in_ok-entry.entry k c.lower_firing.new.draft.cells) c.requires.kept c.clear_at.ensures.clears) c.clear_at.ensures.routines
    c.clear_at.ensures.cells there.0 there.1

pub returns-clause-cleared : goal.returns-clause-cleared
returns-clause-cleared c =
    let there = action-there c.args.b.now c.args.action c.requires.action in
    firing-from (actor_of c.args.b.now) c.args.action (routines_of c.args.callees.now c.args.procedures.now) c.in_ok-entry.entry c.in_ok-firing.firing.firsts.items c.args.draft.now c.put.new.draft c.lower_firing.new.draft
    c.clear_at.new.draft c.requires.sound c.requires.served c.in_ok-entry.ensures.place c.in_ok-put.ensures.added.is c.in_ok-put.ensures.added.routines c.in_ok-put.ensures.added.cells (refl, c.in_ok-firing.ensures.code.1)
    (subst (λ k. SetsZero c.lower_firing.new.draft.instrs.items c.clear_at.new.draft.instrs.items c.in_ok-entry.entry k c.lower_firing.new.draft.cells) c.requires.kept c.clear_at.ensures.clears) c.clear_at.ensures.routines
    c.clear_at.ensures.cells
    (λ act port e.
    let inside =
    firing-inside (routines_of c.args.callees.now c.args.procedures.now) (actor_of c.args.b.now) c.args.action c.in_ok-firing.firing.entry c.in_ok-firing.firing.firsts.items c.put.new.draft c.lower_firing.new.draft
    c.in_ok-firing.ensures.code act port e in
    let same = c.clear_at.ensures.cells in
    omega (arith, inside, same)) there.0 there.1
