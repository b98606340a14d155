use Rattle.std.proofs.Common.{◌≡◌, length}
use Rattle.const_env.specs.Counting.{names_view}
use Rattle.cal_check.specs.Actions.{outputs_on}
use Rattle.cal_check.specs.Violations.{all_broken, said}
use Rattle.check_member.specs.Asking.{outputs_tree, port_views}
use Rattle.check_action.proofs.outputs.outputs_on.Given as goal

abbrev pub invariant-outputs : goal.invariant-outputs
invariant-outputs l =
    said l.passes (all_broken (outputs_on (outputs_tree l.rest) l.left (port_views l.outs) (names_view l.names)))
    ≡ said l.passes (all_broken (outputs_on (outputs_tree l.initial.rest) l.initial.left (port_views l.outs) (names_view l.names)))

abbrev pub decreases-outputs : goal.decreases-outputs
decreases-outputs l = length l.rest
