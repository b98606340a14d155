use Rattle.fnl_markup.proofs.Before.{same_tags}
use Rattle.fnl_markup.proofs.laws.same_tags_before.Goals as goal

pub returns : goal.returns
returns c = λ text other before after at e same. let found = same_tags text other before after at e same in (found.more, found.is)
