use Rattle.fnl_source.proofs.One.{actors_are_one, networks_are_one}
use Rattle.fnl_source.proofs.laws.one_network.Goals as goal

pub returns-clause-actor : goal.returns-clause-actor
returns-clause-actor c = actors_are_one

pub returns-clause-network : goal.returns-clause-network
returns-clause-network c = networks_are_one c.one_line.ensures.behaviour
