use Rattle.action_lower.proofs.FittedParts.{all-locals-fit}
use Rattle.action_lower.proofs.laws.locals_fit.Goals as goal

pub returns : goal.returns
returns c = all-locals-fit
