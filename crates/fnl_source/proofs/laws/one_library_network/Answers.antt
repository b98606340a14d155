use Rattle.fnl_source.proofs.OneLibrary.{files_are_one, library_networks_are_one, one_choice}
use Rattle.fnl_source.proofs.laws.one_library_network.Goals as goal

pub returns-clause-choice : goal.returns-clause-choice
returns-clause-choice c = one_choice

pub returns-clause-files : goal.returns-clause-files
returns-clause-files c = files_are_one c.one_tree.ensures c.files_are_read_as_they_are_spelled.ensures.one

pub returns-clause-network : goal.returns-clause-network
returns-clause-network c = library_networks_are_one c.one_tree.ensures c.files_are_read_as_they_are_spelled.ensures.one c.one_network.ensures.network
