use Rattle.action_lower.proofs.Holding.{seen-is-held}
use Rattle.action_lower.proofs.laws.what_is_seen_is_held.Goals as goal

pub returns : goal.returns
returns c = seen-is-held
