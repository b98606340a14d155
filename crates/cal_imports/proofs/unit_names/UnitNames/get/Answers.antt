use Rattle.std.proofs.Common.{ap, ◌∙◌}
use Rattle.cal_imports.specs.UnitNames.{unit_named}
use Rattle.cal_imports.proofs.FoundUnits.{found_borrowed, found_entry}
use Rattle.cal_imports.proofs.unit_names.UnitNames.get.Goals as goal

pub returns : goal.returns
returns c =
    found_borrowed c.get.result
    ∙ c.get.ensures.value
    ∙ found_entry c.args.class.now c.self.inside.units.entries
    ∙ ap (unit_named c.args.class.now) c.self.view_is
