use Rattle.cal_model.proofs.ActorStates.{kept-are-tokens, tokens-stay, as-many-are-kept}
use Rattle.cal_model.proofs.laws.ports_keep_tokens.Goals as goal

pub returns : goal.returns
returns c = record { in_type = kept-are-tokens; stay = tokens-stay; as_many = as-many-are-kept }
