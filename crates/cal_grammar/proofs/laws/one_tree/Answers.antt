use Rattle.cal_grammar.proofs.Whole.{one_file}
use Rattle.cal_grammar.proofs.laws.one_tree.Goals as goal

pub returns : goal.returns
returns c = one_file
