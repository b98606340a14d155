use Rattle.cal_model.proofs.Ranks.{priorities-of}
use Rattle.cal_model.proofs.laws.sound_actors_have_priorities.Goals as goal

pub returns : goal.returns
returns c = priorities-of
