use Rattle.cal_lexer.proofs.Once as once
use Rattle.cal_lexer.proofs.text.one_list.Goals as goal

pub returns : goal.returns
returns c = λ text tokens others a b. once.one_list a b
