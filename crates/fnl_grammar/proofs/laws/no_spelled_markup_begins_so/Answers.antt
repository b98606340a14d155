use Rattle.fnl_grammar.proofs.Files.{no_document_goes_on}
use Rattle.fnl_grammar.proofs.laws.no_spelled_markup_begins_so.Goals as goal

pub returns : goal.returns
returns c = no_document_goes_on c.no_markup_begins_so.ensures
