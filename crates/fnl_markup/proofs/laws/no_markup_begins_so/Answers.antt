use Rattle.fnl_markup.proofs.Fronts.{begins_no_markup}
use Rattle.fnl_markup.proofs.laws.no_markup_begins_so.Goals as goal

pub returns : goal.returns
returns c = begins_no_markup
