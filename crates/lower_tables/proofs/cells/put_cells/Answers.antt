use Rattle.std.proofs.Common.{◌∙◌}
use Rattle.lower_tables.proofs.Stateful.{cells-more}
use Rattle.lower_tables.proofs.cells.put_cells.Goals as goal

pub loop-k-preserved : goal.loop-k-preserved
loop-k-preserved c =
    c.in_ok-push.ensures.items ∙ cells-more c.args.kind c.args.cell c.loop-k.k c.args.saved.now.items c.loop-k.saved.items c.loop-k.invariant
