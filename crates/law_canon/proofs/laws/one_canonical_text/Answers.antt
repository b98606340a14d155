use Rattle.law_canon.proofs.ReadAgain.{one_text}
use Rattle.law_canon.proofs.laws.one_canonical_text.Goals as goal

pub returns : goal.returns
returns c = one_text c.one_list.ensures c.one_tree.ensures
