use Rattle.fnl_grammar.proofs.Files.{read_is_network_file, network_file_is_read, is_one_network_file}
use Rattle.fnl_grammar.proofs.laws.files_are_read_as_they_are_spelled.Goals as goal

pub returns-clause-spelled : goal.returns-clause-spelled
returns-clause-spelled c = read_is_network_file

pub returns-clause-read : goal.returns-clause-read
returns-clause-read c = network_file_is_read

pub returns-clause-one : goal.returns-clause-one
returns-clause-one c = is_one_network_file
