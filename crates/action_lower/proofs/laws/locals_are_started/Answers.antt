use Rattle.action_lower.proofs.LocalRuns.{starts_as}
use Rattle.action_lower.proofs.laws.locals_are_started.Goals as goal

pub returns : goal.returns
returns c = starts_as
