use Rattle.cal_model.proofs.Agreement.{calls-are-answered}
use Rattle.cal_model.proofs.KindLaws.{kind-kept, nothing-lacking, sound-funs, kinds-kept, formals-kept, generators-kept, call-kept}
use Rattle.cal_model.proofs.laws.kinds_are_kept.Goals as goal

pub returns : goal.returns
returns c = record { expression = kind-kept; expressions = kinds-kept; arguments = formals-kept; elements = generators-kept; call = call-kept; answered = calls-are-answered; nothing_lacks = nothing-lacking; sound = sound-funs }
