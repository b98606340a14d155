use Rattle.cal_model.proofs.KindLaws.{meant-kept, given-kept, judged-type}
use Rattle.cal_model.proofs.laws.types_are_kept.Goals as goal

pub returns : goal.returns
returns c = record { meant = meant-kept; arguments = given-kept; allowed = λ names shape t h. judged-type shape names t h }
