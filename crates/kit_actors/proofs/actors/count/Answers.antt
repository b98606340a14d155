use Rattle.std.proofs.Common.{sym, subst}
use Rattle.cal_model.specs.Sound.{IsSound}
use Rattle.kit_actors.proofs.SoundCount.{count-is-sound}
use Rattle.kit_actors.proofs.actors.count.Goals as goal

pub returns-clause-sound : goal.returns-clause-sound
returns-clause-sound c = subst (λ a. IsSound a) (sym c.in_ok-actor.ensures) count-is-sound
