use Rattle.cal_check.proofs.UntypedFuns.{untyped-give-nothing}
use Rattle.cal_check.proofs.laws.functions_without_types_give_nothing.Goals as goal

pub returns : goal.returns
returns c = untyped-give-nothing
