use Rattle.law_rounds.proofs.AllGrowths.{firings_bound}
use Rattle.law_rounds.proofs.laws.firings_bound_rounds.Goals as goal

pub returns : goal.returns
returns g c = firings_bound
