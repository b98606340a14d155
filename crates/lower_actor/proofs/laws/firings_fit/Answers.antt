use Rattle.lower_actor.proofs.FiringFits.{firing-fits}
use Rattle.lower_actor.proofs.laws.firings_fit.Goals as goal

pub returns : goal.returns
returns c = firing-fits
