use Rattle.law_networks.proofs.Apart.{paths_differ}
use Rattle.law_networks.proofs.laws.paths_differ.Goals as goal

pub returns : goal.returns
returns c = paths_differ
