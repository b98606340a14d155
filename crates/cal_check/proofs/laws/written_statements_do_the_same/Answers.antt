use Rattle.cal_check.proofs.MeaningKept.{both-same, constants-kept}
use Rattle.cal_check.proofs.laws.written_statements_do_the_same.Goals as goal

pub returns-clause-same : goal.returns-clause-same
returns-clause-same c = λ ss procs names runs env left formed fit rest b h k. (both-same ss procs names runs env left formed fit rest b h k).0

pub returns-clause-constants : goal.returns-clause-constants
returns-clause-constants c = constants-kept
