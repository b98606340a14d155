use Rattle.net_model.proofs.Commuting.{firings_commute}
use Rattle.net_model.proofs.laws.firings_commute.Goals as goal

pub returns : goal.returns
returns g c = firings_commute
