use Rattle.net_model.proofs.Lines.{lines_run}
use Rattle.net_model.proofs.laws.lines_are_runs.Goals as goal

pub returns : goal.returns
returns g c = lines_run
