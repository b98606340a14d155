use Rattle.fnl_flatten.proofs.FlatAnswers.{answer_is_flat}
use Rattle.fnl_flatten.proofs.laws.answers_are_flat_networks.Goals as goal

pub returns : goal.returns
returns g c = answer_is_flat
