use Rattle.determinacy_cert.proofs.Stability.{certified_are_stable}
use Rattle.determinacy_cert.proofs.laws.certified_actors_are_stable.Goals as goal

pub returns : goal.returns
returns c = certified_are_stable
