use Rattle.net_model.proofs.Ending.{stalls_in_one_place, stalled_is_not_quiet}
use Rattle.net_model.proofs.laws.stalled_in_one_place.Goals as goal

pub returns-clause-one_place : goal.returns-clause-one_place
returns-clause-one_place g c = stalls_in_one_place

pub returns-clause-not_quiet : goal.returns-clause-not_quiet
returns-clause-not_quiet g c = stalled_is_not_quiet
