use Rattle.std.proofs.Common.{◌+◌, ◌∷◌, [], map, subst, sym, ap, ◌∙◌}
use Rattle.std.specs.Prelude.{vec_items}
use Rattle.std.specs.Arc.{arc_value}
use Rattle.std.proofs.lemmas.List.{map-append}
use Rattle.actor_cell.specs.Core.{seen}
use Rattle.net_cells.specs.Tables.{AreCellsBy}
use Rattle.net_cells.proofs.Celled.{cells_more}
use Rattle.net_cells.proofs.making.cells_by.Goals as goal

pub loop-i-preserved : goal.loop-i-preserved
loop-i-preserved c =
    subst (AreCellsBy (c.loop-i.i + 1) (map arc_value c.args.codes.now) (map vec_items c.args.ins.now) (map vec_items c.args.outs.now) c.args.burst)
    (sym (ap (map seen) c.in_ok-push.ensures.items ∙ map-append seen c.loop-i.cells.items (c.in_ok-cell.cell ∷ [])))
    (cells_more (map arc_value c.args.codes.now) (map vec_items c.args.ins.now) (map vec_items c.args.outs.now) c.args.burst c.loop-i.i (map seen c.loop-i.cells.items) (seen c.in_ok-cell.cell)
    c.loop-i.invariant c.in_ok-cell.ensures)
