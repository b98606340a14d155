use Rattle.lower_base.proofs.Back.{comes_back}
use Rattle.lower_base.proofs.laws.values_come_back.Goals as goal

pub returns : goal.returns
returns c = comes_back
