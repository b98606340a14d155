use Rattle.cal_lexer.proofs.Braces.{same_list}
use Rattle.cal_lexer.proofs.net.same_tokens_in_a_network.Goals as goal

pub returns : goal.returns
returns c = λ text tokens l. same_list l
