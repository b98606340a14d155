use Rattle.std.proofs.Common.{sym, subst}
use Rattle.cal_model.specs.Sound.{IsSound}
use Rattle.kit_actors.proofs.SoundDouble.{double-is-sound}
use Rattle.kit_actors.proofs.doubling.double.Goals as goal

pub returns-clause-sound : goal.returns-clause-sound
returns-clause-sound c = subst (λ a. IsSound a) (sym c.in_ok-actor.ensures) double-is-sound
