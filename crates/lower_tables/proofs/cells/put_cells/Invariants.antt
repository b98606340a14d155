use Rattle.std.proofs.Common.{◌≡◌, ◌++◌, map}
use Rattle.std.specs.List.{range_with_len}
use Rattle.lower_tables.specs.Tables.{typed_cell}
use Rattle.lower_tables.proofs.cells.put_cells.Given as goal

abbrev pub invariant-loop-k : goal.invariant-loop-k
invariant-loop-k l = l.saved.items ≡ l.initial.saved.items ++ map (typed_cell l.kind) (range_with_len l.cell l.k)
