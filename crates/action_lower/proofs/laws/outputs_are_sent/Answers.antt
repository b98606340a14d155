use Rattle.action_lower.proofs.Storing.{sends-as}
use Rattle.action_lower.proofs.laws.outputs_are_sent.Goals as goal

pub returns : goal.returns
returns c = sends-as
