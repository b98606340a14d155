use Rattle.std.proofs.Common.{◌≡◌, ◌∷◌, [], ◌++◌, map, ap, ◌∙◌, rules}
use Rattle.std.specs.Prelude.{string_bytes}
use Rattle.cal_scope.specs.Meanings.{global_of}
use Rattle.cal_scope.specs.Names.{global_named}
use Rattle.cal_scope.proofs.Found.{added_entry}
use Rattle.cal_scope.proofs.file_names.FileNames.add.Goals as goal

pub returns-clause-added : goal.returns-clause-added
returns-clause-added c =
    let same : string_bytes c.in_ok-name.name ≡ c.args.name.now = search rules in
    let whole : string_bytes c.in_ok-full.full ≡ c.args.full.now = search rules in
    ap (map global_of) c.in_ok-insert.ensures.entries
    ∙ added_entry c.self.inside.named c.in_ok-name.name (record { role = c.args.role; full = c.in_ok-full.full }) c.args.name.now same (ap (global_named c.args.name.now) c.self.view_is ∙ c.requires)
    ∙ ap (λ t. map global_of c.self.inside.named.entries ++ record { name = c.args.name.now; role = c.args.role; full = t } ∷ []) whole
    ∙ ap (λ gs. gs ++ record { name = c.args.name.now; role = c.args.role; full = c.args.full.now } ∷ []) c.self.view_is
