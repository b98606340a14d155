use Rattle.network_check.proofs.OneNet.{checked_are_one}
use Rattle.network_check.proofs.laws.checked_are_one_network.Goals as goal

pub returns : goal.returns
returns c = checked_are_one c.one_line.ensures.behaviour
