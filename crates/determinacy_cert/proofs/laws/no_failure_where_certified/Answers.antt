use Rattle.determinacy_cert.proofs.NoFailures.{certified_if, certified_then}
use Rattle.determinacy_cert.proofs.laws.no_failure_where_certified.Goals as goal

pub returns : goal.returns
returns c = λ actor p. (certified_if actor p, certified_then actor p)
