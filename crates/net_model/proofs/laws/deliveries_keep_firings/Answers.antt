use Rattle.net_model.proofs.Arriving.{deliveries_keep_firings}
use Rattle.net_model.proofs.laws.deliveries_keep_firings.Goals as goal

pub returns : goal.returns
returns g c = deliveries_keep_firings
