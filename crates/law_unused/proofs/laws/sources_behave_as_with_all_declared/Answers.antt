use Rattle.law_unused.proofs.Sources.{source-behaves, source-is-closed, source-is-part}
use Rattle.law_unused.proofs.laws.sources_behave_as_with_all_declared.Goals as goal

pub returns-clause-part : goal.returns-clause-part
returns-clause-part c = source-is-part

pub returns-clause-closed : goal.returns-clause-closed
returns-clause-closed c = source-is-closed c.sources_without_violations_are_sound.ensures

pub returns-clause-behaviour : goal.returns-clause-behaviour
returns-clause-behaviour c = source-behaves c.sources_without_violations_are_sound.ensures
