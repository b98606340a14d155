use Rattle.std.proofs.Common.{length, arith}
use Rattle.lower_stmt.proofs.ProcServed.{acts_within, functions_served, procs_low}
use Rattle.lower_stmt.proofs.laws.routines_do_what_procedures_do.Goals as goal

pub returns-clause-procedures : goal.returns-clause-procedures
returns-clause-procedures c = λ globals whole tokens funs procs fs ps low n below distinct typed are text p e.
    acts_within globals whole tokens funs procs low fs below distinct typed (length procs) n are (omega arith) text p e

pub returns-clause-functions : goal.returns-clause-functions
returns-clause-functions c = λ globals whole tokens funs procs fs ps low n below are text f e. functions_served globals whole tokens funs procs low fs below n are (omega arith) text f e

pub returns-clause-cells : goal.returns-clause-cells
returns-clause-cells c = λ globals whole funs procs fs ps low n are. procs_low are
