use Rattle.net_state.proofs.Readied.{ready_can_work}
use Rattle.net_state.proofs.laws.ready_networks_can_work.Goals as goal

pub returns : goal.returns
returns g c = λ net grow burst cells is. ready_can_work net cells is grow burst
