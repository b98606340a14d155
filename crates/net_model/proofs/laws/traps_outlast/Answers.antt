use Rattle.net_model.proofs.Trapping.{traps_outlast_deliveries, traps_outlast_firings, traps_by_one_cause}
use Rattle.net_model.proofs.laws.traps_outlast.Goals as goal

pub returns-clause-deliveries : goal.returns-clause-deliveries
returns-clause-deliveries g c = traps_outlast_deliveries

pub returns-clause-firings : goal.returns-clause-firings
returns-clause-firings g c = traps_outlast_firings

pub returns-clause-one_cause : goal.returns-clause-one_cause
returns-clause-one_cause g c = traps_by_one_cause
