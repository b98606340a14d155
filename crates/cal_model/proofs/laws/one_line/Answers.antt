use Rattle.cal_model.proofs.OneLine.{above-same, one-line, one-choice, one-effect-each, one-behaviour}
use Rattle.cal_model.proofs.laws.one_line.Goals as goal

pub returns : goal.returns
returns c = record { above = above-same; line = one-line; choice = one-choice; effect = one-effect-each; behaviour = one-behaviour }
