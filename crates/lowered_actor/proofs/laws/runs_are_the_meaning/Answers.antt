use Rattle.lowered_actor.proofs.Running.{asked, guard-ends, firing-ends}
use Rattle.lowered_actor.proofs.laws.runs_are_the_meaning.Goals as goal

pub returns : goal.returns
returns c = record {
  asked = λ actor x tokens a action cells lowered are ready. asked actor lowered x tokens a action ready cells are.size;
  guards = λ actor x tokens a action entry cells left o lowered are ready among run.
      guard-ends actor lowered x tokens a action ready c.stands.ensures.next c.stands.ensures.first entry cells left o are among run;
  firings = λ actor x tokens a action cells left o lowered are ready run.
      firing-ends actor lowered x tokens a action ready c.stands.ensures.next c.stands.ensures.first cells left o are run;
}
