use Rattle.fnl_files.proofs.Refused.{not_refused}
use Rattle.fnl_files.proofs.laws.one_outcome.Goals as goal

pub returns : goal.returns
returns c = not_refused c.one_tree.ensures c.files_are_read_as_they_are_spelled.ensures.one c.files_are_read_as_they_are_spelled.ensures.read
