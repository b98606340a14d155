use Rattle.law_networks.proofs.Placed.{leaves_stand}
use Rattle.law_networks.proofs.laws.leaves_stand_in_chains.Goals as goal

pub returns : goal.returns
returns c = leaves_stand
