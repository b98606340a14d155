use Rattle.lower_base.proofs.FittedRoutines.{routine_fits}
use Rattle.lower_base.proofs.laws.routines_fit.Goals as goal

pub returns : goal.returns
returns c = λ whole callable limit globals fs f g base n m code has below sized le at is. routine_fits whole callable limit globals fs f g base n m code has below sized le at is
