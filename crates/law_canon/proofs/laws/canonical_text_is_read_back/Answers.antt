use Rattle.law_canon.proofs.ReadAgain.{read_back}
use Rattle.law_canon.proofs.laws.canonical_text_is_read_back.Goals as goal

pub returns : goal.returns
returns c = read_back
