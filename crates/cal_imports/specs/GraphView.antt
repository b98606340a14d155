-- Nodes, edges and walks, without where they lie in memory.
-- Trusted: part of what a promise means.
use Rattle.std.specs.Prelude.{ℕ, List, map, String, string_bytes}
use Rattle.std.specs.declared.alloc.Global.{Global as Heap}
use Rattle.cal_imports.specs.Walk as walks
use Rattle.cal_imports.specs.declared.graph.Edge.{Edge}
use Rattle.cal_imports.specs.declared.graph.Node.{Node}

abbrev pub edge_of : Edge → walks.Edge
edge_of e = record { to = string_bytes e.to; at = e.at }

-- a node with these edges
abbrev pub node_with : (name : List ℕ) → (file : ℕ) → List Edge → walks.Node
node_with name file edges = record { name = name; file = file; edges = map edge_of edges }

-- a node of a name
abbrev pub node : (name : List ℕ) → Node → walks.Node
node name n = record { name = name; file = n.file; edges = map edge_of n.edges.items }

abbrev pub node_of : String Heap × Node → walks.Node
node_of e = node (string_bytes e.0) e.1
