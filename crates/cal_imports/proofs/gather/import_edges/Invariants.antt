use Rattle.std.proofs.Common.{◌≡◌, length, map, ◌++◌}
use Rattle.cal_imports.specs.Asked.{imports_tree}
use Rattle.cal_imports.specs.GraphView.{edge_of}
use Rattle.cal_imports.specs.Whole.{import_edges}
use Rattle.cal_imports.proofs.gather.import_edges.Given as goal

abbrev pub invariant-imports : goal.invariant-imports
invariant-imports l = map edge_of l.edges.items ++ import_edges (imports_tree l.rest) ≡ import_edges (imports_tree l.initial.rest)

abbrev pub decreases-imports : goal.decreases-imports
decreases-imports l = length l.rest
