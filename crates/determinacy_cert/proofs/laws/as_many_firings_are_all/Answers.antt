use Rattle.determinacy_cert.proofs.Theorems.{as_many_firings}
use Rattle.determinacy_cert.proofs.laws.as_many_firings_are_all.Goals as goal

pub returns : goal.returns
returns g c = as_many_firings
