use Rattle.cal_lexer.proofs.NetOnce as once
use Rattle.cal_lexer.proofs.net.one_list_of_a_network.Goals as goal

pub returns : goal.returns
returns c = λ text tokens others a b. once.one_list a b
