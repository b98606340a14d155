use Rattle.net_model.proofs.LikeLaws.{starts_alike, lines_alike, keep_alike, paced_alike}
use Rattle.net_model.proofs.likeness.lines_play_alike.Goals as goal

pub returns-clause-starts : goal.returns-clause-starts
returns-clause-starts g c = λ net other inputs alike. starts_alike _ _ net other alike inputs

pub returns-clause-plays : goal.returns-clause-plays
returns-clause-plays g c = λ net other grow s t that lines alike states plays. lines_alike _ _ net other alike grow s t that lines states plays

pub returns-clause-keeps : goal.returns-clause-keeps
returns-clause-keeps g c = λ net other s that lines alike states keeps. keep_alike _ _ net other alike s that lines states keeps

pub returns-clause-paced : goal.returns-clause-paced
returns-clause-paced g c = λ net other pace s t that lines alike states paced. paced_alike _ _ net other alike pace s t that lines states paced
