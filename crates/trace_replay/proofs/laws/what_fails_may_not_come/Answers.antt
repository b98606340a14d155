use Rattle.trace_replay.proofs.Excluded.{what_fails_may_not_come}
use Rattle.trace_replay.proofs.laws.what_fails_may_not_come.Goals as goal

pub returns : goal.returns
returns g c = what_fails_may_not_come
