use Rattle.std.proofs.Common.{inl, inr, refl}
use Rattle.check_actor.proofs.own.first_of.Goals as goal

pub returns-in-Ok : goal.returns-in-Ok
returns-in-Ok c = inl (refl, c.in-Ok.ensures)

pub returns-in-Err : goal.returns-in-Err
returns-in-Err c = inr c.in-Err.ensures
