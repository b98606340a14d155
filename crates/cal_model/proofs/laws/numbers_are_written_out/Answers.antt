use Rattle.cal_model.proofs.Written.{number-written}
use Rattle.cal_model.proofs.laws.numbers_are_written_out.Goals as goal

pub returns : goal.returns
returns c = number-written
