use Rattle.net_model.proofs.Rounds.{paced_are_one, begun_begin_paced}
use Rattle.net_model.proofs.pacing.paced_lines_are_one.Goals as goal

pub returns-clause-one : goal.returns-clause-one
returns-clause-one g c = paced_are_one

pub returns-clause-prefix : goal.returns-clause-prefix
returns-clause-prefix g c = begun_begin_paced
