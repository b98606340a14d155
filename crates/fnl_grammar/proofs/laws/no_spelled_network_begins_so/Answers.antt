use Rattle.fnl_grammar.proofs.Whole.{none_goes_on}
use Rattle.fnl_grammar.proofs.laws.no_spelled_network_begins_so.Goals as goal

pub returns : goal.returns
returns c = none_goes_on c.no_network_begins_so.ensures
