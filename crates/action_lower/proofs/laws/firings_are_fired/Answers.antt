use Rattle.action_lower.proofs.FiringRuns.{fires_as}
use Rattle.action_lower.proofs.laws.firings_are_fired.Goals as goal

pub returns : goal.returns
returns c = fires_as c.actions_fire_or_trap.ensures.bodies
