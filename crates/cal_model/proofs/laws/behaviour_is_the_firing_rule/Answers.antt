use Rattle.cal_model.proofs.ActorStates.{behaviour-is-effect, behaviour-stores-tokens, behaviour-is-idle}
use Rattle.cal_model.proofs.Choosing.{effects-are-firings, effects-are-traps}
use Rattle.cal_model.proofs.laws.behaviour_is_the_firing_rule.Goals as goal

pub returns : goal.returns
returns c = record { firings = effects-are-firings; traps = effects-are-traps; in_states = behaviour-is-effect; stored = behaviour-stores-tokens; elsewhere = behaviour-is-idle }
