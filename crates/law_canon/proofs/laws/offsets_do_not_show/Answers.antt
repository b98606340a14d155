use Rattle.law_canon.proofs.ReadAgain.{same_canon}
use Rattle.law_canon.proofs.laws.offsets_do_not_show.Goals as goal

pub returns : goal.returns
returns c = same_canon
