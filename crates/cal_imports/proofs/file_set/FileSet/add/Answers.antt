use Rattle.std.proofs.Common.{◌≡◌, ◌∷◌, [], ◌++◌, map, ap, ◌∙◌, rules}
use Rattle.std.specs.Prelude.{string_bytes}
use Rattle.cal_ast.specs.View.{file_tree}
use Rattle.cal_imports.specs.Sources.{source_named}
use Rattle.cal_imports.specs.View.{source_of}
use Rattle.cal_imports.proofs.Found.{added_entry}
use Rattle.cal_imports.proofs.file_set.FileSet.add.Goals as goal

pub returns-clause-added : goal.returns-clause-added
returns-clause-added c =
    let same : string_bytes c.in_ok-name.name ≡ c.args.name.now = search rules in
    ap (map source_of) c.in_ok-insert.ensures.entries
    ∙ added_entry c.self.inside.files c.in_ok-name.name (record { file = c.args.file; tree = c.args.tree }) c.args.name.now same (ap (λ es. source_named c.args.name.now (map source_of es)) c.self.view_is ∙ c.requires)
    ∙ ap (λ es. map source_of es ++ record { name = c.args.name.now; file = c.args.file; tree = file_tree c.args.tree } ∷ []) c.self.view_is
