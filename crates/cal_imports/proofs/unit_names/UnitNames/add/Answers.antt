use Rattle.std.proofs.Common.{◌≡◌, ◌∷◌, [], ◌++◌, map, ap, ◌∙◌, rules}
use Rattle.std.specs.Prelude.{string_bytes}
use Rattle.cal_imports.specs.UnitNames.{unit_named, unit_of, unit_with}
use Rattle.cal_imports.proofs.FoundUnits.{added_entry}
use Rattle.cal_imports.proofs.unit_names.UnitNames.add.Goals as goal

pub returns : goal.returns
returns c =
    let same : string_bytes c.in_ok-class.class ≡ c.args.class.now = search rules in
    ap (map unit_of) c.in_ok-insert.ensures.entries
    ∙ added_entry c.self.inside.units c.in_ok-class.class c.args.names c.args.class.now same (ap (unit_named c.args.class.now) c.self.view_is ∙ c.requires)
    ∙ ap (λ us. us ++ unit_with c.args.class.now c.args.names ∷ []) c.self.view_is
