use Rattle.action_lower.proofs.FittedParts.{all-outputs-fit}
use Rattle.action_lower.proofs.laws.outputs_fit.Goals as goal

pub returns : goal.returns
returns c = all-outputs-fit
