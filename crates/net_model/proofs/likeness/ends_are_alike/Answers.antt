use Rattle.net_model.proofs.LikeLaws.{ends_alike, texts_alike, bytes_alike}
use Rattle.net_model.proofs.likeness.ends_are_alike.Goals as goal

pub returns-clause-ends : goal.returns-clause-ends
returns-clause-ends g c = λ net other grow s that alike states. ends_alike _ _ net other alike grow s that states

pub returns-clause-texts : goal.returns-clause-texts
returns-clause-texts g c = λ net other grow lines alike. texts_alike _ _ net other alike grow lines

pub returns-clause-bytes : goal.returns-clause-bytes
returns-clause-bytes g c = λ net other s that p alike states. bytes_alike _ _ net other alike s that p states
