use Rattle.cal_model.proofs.Turns.{counts-turns, ends-by-turns}
use Rattle.cal_model.proofs.laws.loops_count_turns.Goals as goal

pub returns : goal.returns
returns c = record { end = counts-turns; too_many = ends-by-turns }
