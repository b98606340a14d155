use Rattle.law_period.proofs.Multiples.{vector_is_multiple}
use Rattle.law_period.proofs.laws.vectors_are_multiples.Goals as goal

pub returns : goal.returns
returns c = vector_is_multiple
