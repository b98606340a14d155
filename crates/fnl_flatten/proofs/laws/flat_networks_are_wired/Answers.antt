use Rattle.fnl_flatten.proofs.Wired.{flat_wired}
use Rattle.fnl_flatten.proofs.laws.flat_networks_are_wired.Goals as goal

pub returns : goal.returns
returns g c = flat_wired
