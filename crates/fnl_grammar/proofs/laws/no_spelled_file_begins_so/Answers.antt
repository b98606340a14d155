use Rattle.fnl_grammar.proofs.Files.{no_network_file_goes_on}
use Rattle.fnl_grammar.proofs.laws.no_spelled_file_begins_so.Goals as goal

pub returns : goal.returns
returns c = no_network_file_goes_on c.no_spelled_network_begins_so.ensures
