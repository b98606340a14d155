use Rattle.cal_lexer.proofs.NetOnce.{one_fault}
use Rattle.cal_lexer.proofs.net.one_first_fault_of_a_network.Goals as goal

pub returns : goal.returns
returns c = λ text rule other at place a b. let same = one_fault a b in (same.same_rule, same.same_place)
