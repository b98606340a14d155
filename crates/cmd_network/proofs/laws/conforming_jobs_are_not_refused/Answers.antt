use Rattle.cmd_network.proofs.Refused.{conforming}
use Rattle.cmd_network.proofs.laws.conforming_jobs_are_not_refused.Goals as goal

pub returns : goal.returns
returns c opened library top words net misses names r tells conforms refuses =
    conforming c.networks_are_not_refused.ensures.library c.one_library_network.ensures.network opened library top words net misses names r tells conforms refuses
