use Rattle.cal_model.proofs.LawfulActors.{behaviour-is-lawful}
use Rattle.cal_model.proofs.laws.sound_actors_are_lawful.Goals as goal

pub returns : goal.returns
returns c = behaviour-is-lawful
