use Rattle.cal_files.proofs.Reached.{reached}
use Rattle.cal_files.proofs.laws.loaded_are_reached.Goals as goal

pub returns : goal.returns
returns c = reached
