use Rattle.net_model.proofs.Ending.{quiet_is_waiting}
use Rattle.net_model.proofs.laws.quiet_is_waiting.Goals as goal

pub returns : goal.returns
returns g c = quiet_is_waiting
