use Rattle.law_violations.proofs.Starts.{variables_have_values}
use Rattle.law_violations.proofs.laws.variables_have_values.Goals as goal

pub returns : goal.returns
returns c = variables_have_values
