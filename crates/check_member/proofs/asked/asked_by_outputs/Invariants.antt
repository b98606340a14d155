use Rattle.std.proofs.Common.{◌≡◌, ◌++◌, length}
use Rattle.cal_check.specs.Ports.{each_asked}
use Rattle.check_member.specs.Asking.{asked_views, outputs_tree}
use Rattle.check_member.proofs.asked.asked_by_outputs.Given as goal

abbrev pub invariant-outputs : goal.invariant-outputs
invariant-outputs l = asked_views l.asked.items ++ each_asked (outputs_tree l.rest) ≡ each_asked (outputs_tree l.initial.rest)

abbrev pub decreases-outputs : goal.decreases-outputs
decreases-outputs l = length l.rest
