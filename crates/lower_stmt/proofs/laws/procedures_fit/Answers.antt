use Rattle.lower_stmt.proofs.FittedProcs.{proc_fits}
use Rattle.lower_stmt.proofs.laws.procedures_fit.Goals as goal

pub returns : goal.returns
returns c = λ whole callable limit globals rs p g base n m code has below typed sized le stands is. proc_fits whole callable limit rs has globals p g base n m code below typed sized le stands is
