use Rattle.law_unused.proofs.Routines.{calls-kept, runs-kept}
use Rattle.law_unused.proofs.laws.routines_over_used_names_do_the_same.Goals as goal

pub returns-clause-functions : goal.returns-clause-functions
returns-clause-functions c = calls-kept

pub returns-clause-procedures : goal.returns-clause-procedures
returns-clause-procedures c = λ keep few all procs within give. runs-kept keep few all give procs within
