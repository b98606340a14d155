use Rattle.lower_base.proofs.Admits.{admits, all_sized}
use Rattle.lower_base.proofs.laws.fitting_guards_are_admitted.Goals as goal

pub returns-clause-admitted : goal.returns-clause-admitted
returns-clause-admitted c = λ instrs cells fits. admits instrs cells fits

pub returns-clause-sized : goal.returns-clause-sized
returns-clause-sized c = λ instrs cells fits. all_sized instrs cells fits
