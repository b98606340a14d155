use Rattle.law_sources.proofs.Loaded.{said_names_differ}
use Rattle.law_sources.proofs.Loaded as loaded
use Rattle.law_sources.proofs.laws.said_files_are_spelled.Goals as goal

pub returns-clause-spelled : goal.returns-clause-spelled
returns-clause-spelled c = loaded.said_files_are_spelled

pub returns-clause-names : goal.returns-clause-names
returns-clause-names c = said_names_differ c.names_differ.ensures
