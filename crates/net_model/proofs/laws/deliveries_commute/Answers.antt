use Rattle.net_model.proofs.Arriving.{deliveries_commute, deliveries_add}
use Rattle.net_model.proofs.laws.deliveries_commute.Goals as goal

pub returns-clause-apart : goal.returns-clause-apart
returns-clause-apart g c = deliveries_commute

pub returns-clause-on_one_link : goal.returns-clause-on_one_link
returns-clause-on_one_link g c = deliveries_add
