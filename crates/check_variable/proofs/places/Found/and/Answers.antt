use Rattle.check_variable.proofs.NamePlaces.{both_find}
use Rattle.check_variable.proofs.places.Found.and.Goals as goal

pub returns : goal.returns
returns c = λ p u v cs ds. both_find p c.args.self c.args.later (record { uses = c.either.result; last = c.later_of.result }) u v cs ds c.either.ensures c.later_of.ensures
