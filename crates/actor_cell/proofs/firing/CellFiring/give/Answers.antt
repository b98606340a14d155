use Rattle.std.proofs.Common.{◌≡◌, arith, ap, subst, Some}
use Rattle.std.specs.Prelude.{slice_get}
use Rattle.lowered_actor.specs.Actor.{Actor, action_of}
use Rattle.lowered_actor.specs.Facts.{IsLowered}
use Rattle.lowered_actor.specs.Meaning.{give}
use Rattle.actor_cell.specs.Core.{Core}
use Rattle.actor_cell.proofs.Bodies.{fits-of}
use Rattle.actor_cell.proofs.Moved.{gives-so}
use Rattle.actor_cell.proofs.firing.CellFiring.give.Goals as goal

pub index-requires : goal.index-requires
index-requires c =
    let actor : Actor = c.self.inside.code.value in
    let action = action_of c.action.result.now in
    let lowered : IsLowered actor = subst IsLowered c.deref.ensures c.code-code.ensures.facts in
    let there : slice_get actor.actions c.args.action.0 ≡ Some action = subst (λ (one : Actor). slice_get one.actions c.args.action.0 ≡ Some action) c.deref-2.ensures c.action.ensures in
    let size = (fits-of actor c.args.action.0 action lowered there).gives in
    let outs = ap (λ (core : Core). core.actor.outs) c.self.view_is in
    omega (arith, size, outs, c.requires.port)

pub returns : goal.returns
returns c =
    let actor : Actor = c.self.inside.code.value in
    let action = action_of c.action.result.now in
    let lowered : IsLowered actor = subst IsLowered c.deref.ensures c.code-code.ensures.facts in
    let there : slice_get actor.actions c.args.action.0 ≡ Some action = subst (λ (one : Actor). slice_get one.actions c.args.action.0 ≡ Some action) c.deref-2.ensures c.action.ensures in
    let outs = ap (λ (core : Core). core.actor.outs) c.self.view_is in
    subst (λ (core : Core). c.index.result.now ≡ give core.actor c.args.action.0 c.args.port) c.self.view_is
    (gives-so actor c.args.action.0 c.args.port c.index.result.now action lowered there (omega (arith, outs, c.requires.port)) c.index.ensures)
