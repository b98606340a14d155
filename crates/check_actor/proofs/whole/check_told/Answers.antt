use Rattle.std.proofs.Common.{ap, subst, ◌∙◌}
use Rattle.std.specs.Prelude.{[]}
use Rattle.check_functions.specs.Known.{names_differ}
use Rattle.cal_check.specs.Variables.{seen}
use Rattle.check_given.specs.Given.{all_given, spot_of}
use Rattle.check_actor.specs.Own.{TellsFunctions}
use Rattle.check_actor.specs.Sources.{source_in}
use Rattle.check_actor.proofs.Answering.{told_early}
use Rattle.check_actor.proofs.Naming.{names_of_funs_differ}
use Rattle.check_actor.proofs.whole.check_told.Goals as goal

pub early_values-requires-clause-differ : goal.early_values-requires-clause-differ
early_values-requires-clause-differ c =
    ap names_differ c.requires.funs ∙ names_of_funs_differ (source_in c.args.scope.now) c.requires.distinct

pub early_fault-requires : goal.early_fault-requires
early_fault-requires c =
    ap names_differ c.requires.funs ∙ names_of_funs_differ (source_in c.args.scope.now) c.requires.distinct

pub returns-in-Err : goal.returns-in-Err
returns-in-Err c =
    told_early c.in-Err.fault c.early_fault.result (source_in c.args.scope.now) (all_given c.args.told.given.now) (spot_of c.args.told.owner)
    (subst (λ fs. TellsFunctions fs (seen fs []) c.in-Err.fault c.early_fault.result) c.requires.funs c.early_fault.ensures) c.in-Err.ensures
