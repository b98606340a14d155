use Rattle.nl_grammar.proofs.Whole.{one_net, one_text}
use Rattle.nl_grammar.proofs.laws.one_network.Goals as goal

pub returns : goal.returns
returns c = record { tokens = one_net; text = one_text }
