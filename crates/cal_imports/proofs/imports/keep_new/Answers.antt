use Rattle.cal_imports.proofs.FoundUnits.{new_found, new_kept, new_there}
use Rattle.cal_imports.specs.View.{sources}
use Rattle.cal_imports.proofs.imports.keep_new.Goals as goal

pub returns-clause-kept : goal.returns-clause-kept
returns-clause-kept c =
    new_kept (sources c.args.set.now) c.args.class.now c.args.file c.args.at c.args.kept.now _ c.in_ok-names.names c.requires.kept c.in_ok-names.ensures c.in_ok-add.ensures

pub returns-clause-there : goal.returns-clause-there
returns-clause-there c =
    new_there (sources c.args.set.now) c.args.class.now c.args.file c.args.at c.args.kept.now _ c.in_ok-names.names c.requires.new c.in_ok-add.ensures

pub returns-clause-found : goal.returns-clause-found
returns-clause-found c =
    new_found (sources c.args.set.now) c.args.class.now c.args.file c.args.at c.args.kept.now _ c.in_ok-names.names c.requires.new c.in_ok-names.ensures c.in_ok-add.ensures
