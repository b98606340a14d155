use Rattle.std.proofs.Common.{◌≡◌, ◌<◌, ◌+◌, arith, ap, sym, subst, length, map}
use Rattle.std.proofs.lemmas.List.{length-map}
use Rattle.net_state.specs.Held.{seen}
use Rattle.net_state.specs.Surveyed.{AreSettled, Tells}
use Rattle.net_state.specs.Working.{IsAtRest}
use Rattle.net_state.proofs.Standstill.{settled}
use Rattle.net_state.proofs.Surveying.{IsSurvey, may_work, survey_more}
use Rattle.net_state.proofs.network.NetState.survey.Goals as goal

pub look-look-requires : goal.look-look-requires
look-look-requires g c =
    let cells_are : length c.self.inside.cells.items ≡ length c.args.self.now.cells = ap (λ h. length h.cells) c.self.view_is in
    let low : c.loop-k.k < length (map g.A.Firing.cell c.loop-k.self.cells) =
    omega (arith, c.loop-k-test.true, c.len-k-end.ensures, cells_are, c.loop-k.invariant.actors.count, length-map c.args.self.now.cells g.A.Firing.cell, length-map c.loop-k.self.cells g.A.Firing.cell) in
    record {
      may = may_work c.loop-k.k c.loop-k.found (seen g.A.Firing.cell c.args.self.now) (seen g.A.Firing.cell c.loop-k.self) c.requires.untrapped c.loop-k.invariant c.loop-k.k low;
    }

pub loop-k-preserved : goal.loop-k-preserved
loop-k-preserved g c =
    subst (λ found. IsSurvey (c.loop-k.k + 1) found (seen g.A.Firing.cell c.args.self.now) (seen g.A.Firing.cell c.look-look.new.self)) (sym c.with_look-found.ensures)
    (survey_more c.loop-k.k c.loop-k.found c.look-look.result (seen g.A.Firing.cell c.args.self.now) (seen g.A.Firing.cell c.loop-k.self) (seen g.A.Firing.cell c.look-look.new.self)
    c.loop-k.invariant c.look-look.ensures.looks c.look-look.ensures.same_actors c.look-look.ensures.same_marks c.look-look.ensures.links c.look-look.ensures.capacities c.look-look.ensures.waited)

pub returns-clause-tells : goal.returns-clause-tells
returns-clause-tells g c =
    let cells_are : length c.self.inside.cells.items ≡ length c.args.self.now.cells = ap (λ h. length h.cells) c.self.view_is in
    let all : c.loop-k.k ≡ length c.args.self.now.cells = omega (arith, c.loop-k-test.false, c.loop-k.auto.k-end, c.len-k-end.ensures, cells_are) in
    subst (λ n. Tells n c.loop-k.found (seen g.A.Firing.cell c.args.self.now)) all c.loop-k.invariant.tells

pub returns-clause-settled : goal.returns-clause-settled
returns-clause-settled g c =
    subst (λ h. AreSettled (seen g.A.Firing.cell h)) c.self.view_is
    (λ net s that. settled net (map g.A.Firing.cell c.self.inside.cells.items) c.self.inside.links.items c.self.inside.capacities.items c.self.inside.waited.items s that.is_of that.stands
    c.self.invariant.0 (subst (λ h. IsAtRest (seen g.A.Firing.cell h)) (sym c.self.view_is) c.requires.rest))
