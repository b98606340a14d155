use Rattle.cal_model.proofs.Loops.{while-unfolds, numbers-unfold}
use Rattle.cal_model.proofs.TurnsTaken.{functions-take-turns, procedures-take-turns}
use Rattle.cal_model.proofs.laws.loops_go_on.Goals as goal

pub returns : goal.returns
returns c = record { while_true = while-unfolds; each_number = numbers-unfold; functions = functions-take-turns; procedures = procedures-take-turns }
