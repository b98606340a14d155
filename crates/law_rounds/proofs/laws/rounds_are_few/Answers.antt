use Rattle.law_rounds.proofs.FewRounds.{begun_rounds_few, paced_rounds_few}
use Rattle.law_rounds.proofs.laws.rounds_are_few.Goals as goal

pub returns-clause-begun : goal.returns-clause-begun
returns-clause-begun g c = begun_rounds_few

pub returns-clause-paced : goal.returns-clause-paced
returns-clause-paced g c = paced_rounds_few
