use Rattle.std.proofs.Common.{ap, ◌∙◌}
use Rattle.std.specs.Prelude.{option_map}
use Rattle.cal_imports.specs.Walk.{node_named}
use Rattle.cal_imports.specs.GraphView.{node}
use Rattle.cal_imports.proofs.FoundNodes.{found_borrowed, found_entry}
use Rattle.cal_imports.proofs.graph.Nodes.find.Goals as goal

pub returns : goal.returns
returns c =
    found_borrowed c.args.name.now c.get.result
    ∙ ap (option_map (node c.args.name.now)) c.get.ensures.value
    ∙ found_entry c.args.name.now c.self.inside.named.entries
    ∙ ap (node_named c.args.name.now) c.self.view_is
