use Rattle.nl_grammar.proofs.Whole.{breaks_none}
use Rattle.nl_grammar.proofs.laws.no_network_breaks_a_rule.Goals as goal

pub returns : goal.returns
returns c = breaks_none
