use Rattle.net_model.proofs.KeepingRuns.{starts_can_begin, begun_keep, paced_keep}
use Rattle.net_model.proofs.pacing.paced_lines_keep_capacities.Goals as goal

pub returns-clause-start : goal.returns-clause-start
returns-clause-start g c = starts_can_begin

pub returns-clause-begun : goal.returns-clause-begun
returns-clause-begun g c = begun_keep

pub returns-clause-paced : goal.returns-clause-paced
returns-clause-paced g c = paced_keep
