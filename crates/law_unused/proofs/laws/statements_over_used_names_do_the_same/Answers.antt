use Rattle.law_unused.proofs.Statements.{statements-kept}
use Rattle.law_unused.proofs.laws.statements_over_used_names_do_the_same.Goals as goal

pub returns : goal.returns
returns c = λ keep few all some every ss env left u give do_. statements-kept keep few all give some every do_ ss env left u
