use Rattle.net_model.proofs.Trapping.{acts_once}
use Rattle.net_model.proofs.laws.stable_actors_act_once.Goals as goal

pub returns : goal.returns
returns g c = acts_once
