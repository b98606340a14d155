use Rattle.fnl_grammar.proofs.Whole.{read_is_spelled, spelled_is_read, spells_one}
use Rattle.fnl_grammar.proofs.laws.networks_are_read_as_they_are_spelled.Goals as goal

pub returns-clause-spelled : goal.returns-clause-spelled
returns-clause-spelled c = read_is_spelled

pub returns-clause-read : goal.returns-clause-read
returns-clause-read c = spelled_is_read

pub returns-clause-one : goal.returns-clause-one
returns-clause-one c = spells_one
