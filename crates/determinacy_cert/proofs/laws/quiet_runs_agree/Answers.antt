use Rattle.determinacy_cert.proofs.Theorems.{quiet_runs_agree}
use Rattle.determinacy_cert.proofs.laws.quiet_runs_agree.Goals as goal

pub returns : goal.returns
returns g c = quiet_runs_agree
