use Rattle.cmd_run_network.proofs.Wired.{any_may_be_open}
use Rattle.cmd_run_network.proofs.laws.any_ports_may_be_open.Goals as goal

pub returns : goal.returns
returns g c = any_may_be_open g.M.Meaning.State
