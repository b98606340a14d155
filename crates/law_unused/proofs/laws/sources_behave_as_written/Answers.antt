use Rattle.law_unused.proofs.AsWritten.{source-as-written, source-ordered, whole-behaves}
use Rattle.law_unused.proofs.laws.sources_behave_as_written.Goals as goal

pub returns-clause-order : goal.returns-clause-order
returns-clause-order c = source-ordered

pub returns-clause-whole : goal.returns-clause-whole
returns-clause-whole c = whole-behaves c.written_routines_do_the_same.ensures.actions

pub returns-clause-behaviour : goal.returns-clause-behaviour
returns-clause-behaviour c = source-as-written c.sources_without_violations_are_sound.ensures c.written_routines_do_the_same.ensures.actions
