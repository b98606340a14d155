use Rattle.std.proofs.Common.{length, map, false, true, sym, subst}
use Rattle.std.specs.Prelude.{vec_items}
use Rattle.std.specs.Arc.{arc_value}
use Rattle.std.proofs.lemmas.List.{length-map}
use Rattle.actor_cell.specs.Core.{seen}
use Rattle.net_cells.specs.Tables.{AreRoomsOf}
use Rattle.net_cells.proofs.Celled.{cells_are, on_success, roomy}
use Rattle.net_cells.proofs.Runnably.{can_run}
use Rattle.net_cells.proofs.making.make_cells.Goals as goal

pub cells_by-requires-clause-roomy : goal.cells_by-requires-clause-roomy
cells_by-requires-clause-roomy c =
    roomy c.args.grow (map arc_value c.args.codes.now) c.args.links.now (map vec_items c.deref.result.now)
    (subst (λ rows. AreRoomsOf true c.args.grow 1 (map arc_value c.args.codes.now) c.args.links.now (map vec_items rows)) (sym c.deref.ensures.value) c.in_ok-ins.ensures)

pub returns-clause-cells : goal.returns-clause-cells
returns-clause-cells c =
    let codes = map arc_value c.args.codes.now in
    on_success c.cells_by.result _ _
    (λ cells are. cells_are c.args.grow codes c.args.links.now c.args.burst (length c.args.codes.now) (map vec_items c.deref.result.now) (map vec_items c.deref-2.result.now) (map seen cells.items)
    (sym (length-map c.args.codes.now arc_value))
    (subst (λ rows. AreRoomsOf true c.args.grow 1 codes c.args.links.now (map vec_items rows)) (sym c.deref.ensures.value) c.in_ok-ins.ensures)
    (subst (λ rows. AreRoomsOf false c.args.grow 0 codes c.args.links.now (map vec_items rows)) (sym c.deref-2.ensures.value) c.in_ok-outs.ensures)
    are)
    c.cells_by.ensures

pub returns-clause-can_run : goal.returns-clause-can_run
returns-clause-can_run c =
    let codes = map arc_value c.args.codes.now in
    on_success c.cells_by.result _ _
    (λ cells are. can_run codes c.args.links.now c.args.burst c.args.grow (map seen cells.items)
    (cells_are c.args.grow codes c.args.links.now c.args.burst (length c.args.codes.now) (map vec_items c.deref.result.now) (map vec_items c.deref-2.result.now) (map seen cells.items)
    (sym (length-map c.args.codes.now arc_value))
    (subst (λ rows. AreRoomsOf true c.args.grow 1 codes c.args.links.now (map vec_items rows)) (sym c.deref.ensures.value) c.in_ok-ins.ensures)
    (subst (λ rows. AreRoomsOf false c.args.grow 0 codes c.args.links.now (map vec_items rows)) (sym c.deref-2.ensures.value) c.in_ok-outs.ensures)
    are))
    c.cells_by.ensures
