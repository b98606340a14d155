use Rattle.cal_files.proofs.One.{one}
use Rattle.cal_files.proofs.laws.one_loading.Goals as goal

pub returns : goal.returns
returns c = one c.one_tree.ensures
