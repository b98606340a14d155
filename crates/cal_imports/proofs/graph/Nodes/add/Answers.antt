use Rattle.std.proofs.Common.{◌≡◌, ◌∷◌, [], ◌++◌, map, sym, ap, ◌∙◌, rules}
use Rattle.std.specs.Prelude.{None, string_bytes}
use Rattle.cal_imports.specs.GraphView.{node, node_of}
use Rattle.cal_imports.specs.Walk.{node_named}
use Rattle.cal_imports.proofs.FoundNodes.{added_entry, not_there}
use Rattle.cal_imports.proofs.graph.Nodes.add.Goals as goal

pub returns : goal.returns
returns c =
    let same : string_bytes c.in_ok-name.name ≡ c.args.name.now = search rules in
    let away : node_named c.args.name.now c.args.self.now ≡ None = search rules in
    ap (map node_of) c.in_ok-insert.ensures.entries
    ∙ added_entry c.self.inside.named c.in_ok-name.name (record { file = c.args.file; edges = c.args.edges }) c.args.name.now same (ap (node_named c.args.name.now) c.self.view_is ∙ away)
    ∙ ap (λ ns. ns ++ node c.args.name.now (record { file = c.args.file; edges = c.args.edges }) ∷ []) c.self.view_is
    ∙ sym (not_there (node c.args.name.now (record { file = c.args.file; edges = c.args.edges })) c.args.self.now away)
