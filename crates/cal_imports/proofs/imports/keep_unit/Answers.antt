use Rattle.std.proofs.Common.{◌≡◌, true, rules}
use Rattle.std.specs.Prelude.{is_some}
use Rattle.cal_imports.proofs.FoundUnits.{kept_found}
use Rattle.cal_imports.specs.UnitNames.{unit_named}
use Rattle.cal_imports.specs.View.{sources}
use Rattle.cal_imports.proofs.imports.keep_unit.Goals as goal

pub returns-then-has-clause-found : goal.returns-then-has-clause-found
returns-then-has-clause-found c =
    let has : is_some (unit_named c.args.class.now c.args.kept.now) ≡ true = search rules in
    kept_found (sources c.args.set.now) c.args.class.now c.args.file c.args.at c.args.kept.now c.requires has
