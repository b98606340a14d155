use Rattle.fnl_read.proofs.Begins.{begins_no_network}
use Rattle.fnl_read.proofs.laws.no_network_begins_so.Goals as goal

pub returns : goal.returns
returns c = begins_no_network c.same_tags_before.ensures c.no_markup_begins_so.ensures
