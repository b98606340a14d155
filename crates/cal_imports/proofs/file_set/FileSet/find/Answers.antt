use Rattle.std.proofs.Common.{map, ap, ◌∙◌}
use Rattle.std.specs.Prelude.{option_map}
use Rattle.cal_imports.specs.Sources.{source_named}
use Rattle.cal_imports.specs.View.{source, source_of}
use Rattle.cal_imports.proofs.Found.{found_borrowed, found_entry}
use Rattle.cal_imports.proofs.file_set.FileSet.find.Goals as goal

pub returns : goal.returns
returns c =
    found_borrowed c.args.name.now c.get.result
    ∙ ap (option_map (source c.args.name.now)) c.get.ensures.value
    ∙ found_entry c.args.name.now c.self.inside.files.entries
    ∙ ap (λ es. source_named c.args.name.now (map source_of es)) c.self.view_is
