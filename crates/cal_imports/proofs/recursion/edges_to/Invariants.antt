use Rattle.std.proofs.Common.{◌≡◌, ◌++◌, length, map}
use Rattle.cal_imports.specs.GraphView.{edge_of, node_of}
use Rattle.cal_imports.specs.Recursion.{edge_to}
use Rattle.cal_imports.proofs.recursion.edges_to.Given as goal

abbrev pub invariant-nodes : goal.invariant-nodes
invariant-nodes l = map edge_of l.edges.items ++ map edge_to (map node_of l.rest) ≡ map edge_to (map node_of l.initial.rest)

abbrev pub decreases-nodes : goal.decreases-nodes
decreases-nodes l = length l.rest
