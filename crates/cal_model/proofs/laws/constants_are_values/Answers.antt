use Rattle.cal_model.proofs.Agreement.{constant-is-value}
use Rattle.cal_model.proofs.laws.constants_are_values.Goals as goal

pub returns : goal.returns
returns c = constant-is-value
