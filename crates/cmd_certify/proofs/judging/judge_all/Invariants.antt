use Rattle.std.proofs.Common.{length}
use Rattle.cmd_certify.proofs.Leaves.{JudgedSoFar}
use Rattle.cmd_certify.proofs.judging.judge_all.Given as goal

abbrev pub invariant-actors : goal.invariant-actors
invariant-actors l = JudgedSoFar l.initial.rest l.rest l.said.items

abbrev pub decreases-actors : goal.decreases-actors
decreases-actors l = length l.rest
