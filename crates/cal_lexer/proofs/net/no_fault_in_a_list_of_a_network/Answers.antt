use Rattle.cal_lexer.proofs.NetOnce.{not_both}
use Rattle.cal_lexer.proofs.net.no_fault_in_a_list_of_a_network.Goals as goal

pub returns : goal.returns
returns c = λ text tokens rule at a b. not_both a b
