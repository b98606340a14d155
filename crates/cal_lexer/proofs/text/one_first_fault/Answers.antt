use Rattle.cal_lexer.proofs.Once.{one_fault}
use Rattle.cal_lexer.proofs.text.one_first_fault.Goals as goal

pub returns : goal.returns
returns c = λ text rule other at place a b. let same = one_fault a b in (same.same_rule, same.same_place)
