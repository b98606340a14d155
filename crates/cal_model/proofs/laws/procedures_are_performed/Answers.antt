use Rattle.cal_model.proofs.Procedures.{runs-are-performed}
use Rattle.cal_model.proofs.laws.procedures_are_performed.Goals as goal

pub returns : goal.returns
returns c = runs-are-performed
