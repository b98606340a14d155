use Rattle.cal_lexer.proofs.Once.{not_both}
use Rattle.cal_lexer.proofs.text.no_fault_in_a_list.Goals as goal

pub returns : goal.returns
returns c = λ text tokens rule at a b. not_both a b
