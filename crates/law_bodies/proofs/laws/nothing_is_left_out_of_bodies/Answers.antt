use Rattle.law_bodies.proofs.Routines.{fun_none, proc_none}
use Rattle.law_bodies.proofs.Statements.{all_none}
use Rattle.law_bodies.proofs.laws.nothing_is_left_out_of_bodies.Goals as goal

pub returns-clause-statements : goal.returns-clause-statements
returns-clause-statements c = λ funs procs rs known names body ready calls plain are. all_none funs procs rs body known names ready calls plain are

pub returns-clause-function : goal.returns-clause-function
returns-clause-function c = λ fs known names f ready starts calls is. fun_none known.funs fs f known names ready starts calls is

pub returns-clause-procedure : goal.returns-clause-procedure
returns-clause-procedure c = λ procs rs known names p ready starts calls is. proc_none known.funs procs rs p known names ready starts calls is
