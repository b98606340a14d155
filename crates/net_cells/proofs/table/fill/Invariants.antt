use Rattle.std.proofs.Common.{◌≡◌, map, length}
use Rattle.std.specs.Prelude.{vec_items}
use Rattle.net_cells.specs.Tables.{filled}
use Rattle.net_cells.proofs.table.fill.Given as goal

abbrev pub invariant-links : goal.invariant-links
invariant-links l = filled l.inward l.grow l.rest (map vec_items l.table) ≡ filled l.inward l.grow l.links (map vec_items l.fn.table)

abbrev pub decreases-links : goal.decreases-links
decreases-links l = length l.rest
