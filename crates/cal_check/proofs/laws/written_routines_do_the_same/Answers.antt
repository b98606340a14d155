use Rattle.cal_check.proofs.SourceFunctions.{actions-same, functions-same, procedures-same}
use Rattle.cal_check.proofs.laws.written_routines_do_the_same.Goals as goal

pub returns-clause-functions : goal.returns-clause-functions
returns-clause-functions c = functions-same

pub returns-clause-procedures : goal.returns-clause-procedures
returns-clause-procedures c = procedures-same

pub returns-clause-actions : goal.returns-clause-actions
returns-clause-actions c = actions-same
