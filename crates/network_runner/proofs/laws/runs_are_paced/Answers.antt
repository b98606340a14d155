use Rattle.network_runner.proofs.FromStart.{runs_are_paced}
use Rattle.network_runner.proofs.laws.runs_are_paced.Goals as goal

pub returns : goal.returns
returns g c = runs_are_paced g.M.Meaning.State
