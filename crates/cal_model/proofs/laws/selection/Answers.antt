use Rattle.cal_model.proofs.Choosing.{chosen-is-enabled, chosen-traps, waiting-is-idle}
use Rattle.cal_model.proofs.laws.selection.Goals as goal

pub returns : goal.returns
returns c = record { fires = chosen-is-enabled; traps = chosen-traps; waits = waiting-is-idle }
