use Rattle.const_eval.proofs.Clashing.{never_clashes}
use Rattle.const_eval.proofs.constant.never_clashes.Goals as goal

pub returns : goal.returns
returns c = never_clashes c.kinds_are_kept.ensures.expression
