use Rattle.law_rounds.proofs.FewGrowths.{growths_few}
use Rattle.law_rounds.proofs.laws.links_grow_few_times.Goals as goal

pub returns : goal.returns
returns g c = growths_few
