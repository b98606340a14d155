use Rattle.network_check.proofs.Tops.{tops_are_read}
use Rattle.network_check.proofs.laws.tops_are_read_by_name.Goals as goal

pub returns : goal.returns
returns c = tops_are_read
