use Rattle.cal_files.proofs.One.{not_refused}
use Rattle.cal_files.proofs.laws.one_outcome.Goals as goal

pub returns : goal.returns
returns c = not_refused c.one_tree.ensures
