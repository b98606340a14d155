use Rattle.cal_model.proofs.KindLaws.{counter-kept, entry-kept, locals-kept}
use Rattle.cal_model.proofs.laws.environments_are_kept.Goals as goal

pub returns : goal.returns
returns c = record { counter = counter-kept; entry = entry-kept; locals = locals-kept }
