use Rattle.law_unused.proofs.Firings.{shows-the-same, states-kept}
use Rattle.law_unused.proofs.laws.kept_parts_behave_the_same.Goals as goal

pub returns-clause-behaviour : goal.returns-clause-behaviour
returns-clause-behaviour c = λ keep actor p closed. shows-the-same keep actor closed p

pub returns-clause-states : goal.returns-clause-states
returns-clause-states c = states-kept
