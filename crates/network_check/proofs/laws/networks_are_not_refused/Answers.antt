use Rattle.network_check.proofs.Kept.{networks_are_not_refused, networks_break_nothing}
use Rattle.network_check.proofs.laws.networks_are_not_refused.Goals as goal

pub returns-clause-files : goal.returns-clause-files
returns-clause-files c = networks_break_nothing c.one_network.ensures.actor

pub returns-clause-library : goal.returns-clause-library
returns-clause-library c = networks_are_not_refused c.one_network.ensures.actor c.one_library_network.ensures.files c.one_outcome.ensures
