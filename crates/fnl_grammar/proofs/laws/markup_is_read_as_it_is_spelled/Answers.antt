use Rattle.fnl_grammar.proofs.Spelled.{tags_are_spelled, tags_are_read, spells_one_markup}
use Rattle.fnl_grammar.proofs.laws.markup_is_read_as_it_is_spelled.Goals as goal

pub returns-clause-spelled : goal.returns-clause-spelled
returns-clause-spelled c = tags_are_spelled

pub returns-clause-read : goal.returns-clause-read
returns-clause-read c = tags_are_read

pub returns-clause-one : goal.returns-clause-one
returns-clause-one c = spells_one_markup
