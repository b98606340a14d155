use Rattle.law_unused.proofs.Statements.{all-kept, eval-kept}
use Rattle.law_unused.proofs.laws.expressions_over_used_names_give_the_same.Goals as goal

pub returns-clause-one : goal.returns-clause-one
returns-clause-one c = λ keep few all e env left u give. eval-kept keep few all give e env left u

pub returns-clause-each : goal.returns-clause-each
returns-clause-each c = λ keep few all es env left u give. all-kept keep few all give es env left u
