use Rattle.cal_model.proofs.Choosing.{one-firing, one-trap, never-both}
use Rattle.cal_model.proofs.laws.one_effect.Goals as goal

pub returns : goal.returns
returns c = record { firing = one-firing; trap = one-trap; never_both = never-both }
