use Rattle.net_model.proofs.Rounds.{begun_play, paced_play}
use Rattle.net_model.proofs.pacing.paced_lines_play.Goals as goal

pub returns-clause-begun : goal.returns-clause-begun
returns-clause-begun g c = begun_play

pub returns-clause-paced : goal.returns-clause-paced
returns-clause-paced g c = paced_play
