use Rattle.cal_model.proofs.ActorStates.{states-are-tested, start-is-state}
use Rattle.cal_model.proofs.KeptByFirings.{firings-keep-states, behaviour-keeps-states}
use Rattle.cal_model.proofs.laws.actors_stay_in_their_states.Goals as goal

pub returns : goal.returns
returns c = record { tested = states-are-tested; start = start-is-state; firing = firings-keep-states; behaviour = behaviour-keeps-states }
