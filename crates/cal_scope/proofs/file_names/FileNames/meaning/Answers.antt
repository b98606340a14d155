use Rattle.std.proofs.Common.{ap, ◌∙◌}
use Rattle.std.specs.Prelude.{option_map}
use Rattle.cal_scope.specs.Meanings.{meaning_of}
use Rattle.cal_scope.specs.Names.{global_named}
use Rattle.cal_scope.proofs.Found.{found_borrowed, found_entry}
use Rattle.cal_scope.proofs.file_names.FileNames.meaning.Goals as goal

pub returns : goal.returns
returns c =
    found_borrowed c.args.name.now c.get.result
    ∙ ap (option_map (meaning_of c.args.name.now)) c.get.ensures.value
    ∙ found_entry c.args.name.now c.self.inside.named.entries
    ∙ ap (global_named c.args.name.now) c.self.view_is
