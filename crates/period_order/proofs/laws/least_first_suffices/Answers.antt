use Rattle.period_order.proofs.Taking.{least_first_is_period}
use Rattle.period_order.proofs.laws.least_first_suffices.Goals as goal

pub returns : goal.returns
returns c = least_first_is_period
