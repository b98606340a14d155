use Rattle.determinacy_cert.proofs.Theorems.{no_quiet_besides}
use Rattle.determinacy_cert.proofs.laws.no_quiet_run_besides_a_trap.Goals as goal

pub returns : goal.returns
returns g c = no_quiet_besides
