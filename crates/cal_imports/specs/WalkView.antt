-- Walks, without where they lie in memory.
-- Trusted: part of what a promise means.
use Rattle.std.specs.Prelude.{◌≡◌, ℕ, Bool, true, false, List, map, reverse}
use Rattle.std.specs.declared.result.Result.{Result}
use Rattle.std.specs.declared.result.Result.TheVariants.{Ok, Err}
use Rattle.cal_imports.specs.GraphView.{edge_of, node}
use Rattle.cal_imports.specs.Walk as walks
use Rattle.cal_imports.specs.Walk.{Step, Goes, Ends, Stops, entering, followed, left_inside, step_at, with_entered}
use Rattle.cal_imports.specs.declared.graph.Edge.{Edge}
use Rattle.cal_imports.specs.declared.graph.Node.{Node}
use Rattle.cal_imports.specs.declared.fault.ImportFault.{ImportFault}
use Rattle.cal_imports.specs.declared.fault.ImportFault.TheVariants as fault
use Rattle.cal_imports.specs.declared.walk.Graph.{Graph}
use Rattle.cal_imports.specs.declared.walk.Open.{Open}
use Rattle.cal_imports.specs.declared.walk.Walk.{Walk}

abbrev pub graph_view : Graph → walks.Graph
graph_view g = record { nodes = g.nodes.now; missing = g.missing; circle = g.circle }

abbrev pub open_of : Open → walks.Open
open_of o = record { name = o.name.now; file = o.file; rest = map edge_of o.rest.now }

abbrev pub walk_view : Walk → walks.Walk
walk_view w = record {
  open_nodes = reverse (map open_of w.open_nodes.items);
  entered = w.entered;
  left = w.left;
}

-- the steps of a walk

abbrev pub following : Graph → Open → Edge → List Edge → Walk → Step
following g o e es w = followed (graph_view g) (open_of o) (edge_of e) (map edge_of es) (walk_view w)

abbrev pub entered_under : (name : List ℕ) → (target : Node) → (outside : Open) → Walk → walks.Walk
entered_under name target outside w =
    with_entered name (entering (node name target)) (open_of outside) (walk_view w)

abbrev pub stepping_at : Graph → Open → Walk → Step
stepping_at g o w = step_at (graph_view g) (open_of o) (map edge_of o.rest.now) (walk_view w)

abbrev pub leaving_inside : List ℕ → Walk → Step
leaving_inside name w = left_inside (walk_view w).open_nodes name (walk_view w)

-- what a step answers that goes on to a walk, or stops
abbrev pub StopsBy : ImportFault → Step → Type 0
StopsBy (fault.Refused rule file at) s = s ≡ Stops rule file at
StopsBy fault.Memory s = Unit {0}

abbrev pub GoesTo : Result (Unit {0}) ImportFault → Walk → Step → Type 0
GoesTo (Ok u) new s = s ≡ Goes (walk_view new)
GoesTo (Err f) new s = StopsBy f s

-- whether there was a step
abbrev pub StepsTo : Result Bool ImportFault → Walk → Step → Type 0
StepsTo (Ok true) new s = s ≡ Goes (walk_view new)
StepsTo (Ok false) new s = s ≡ Ends (walk_view new).left
StepsTo (Err f) new s = StopsBy f s
