use Rattle.std.proofs.Common.{◌≡◌, ◌++◌, length, map}
use Rattle.cal_model.specs.Kinding.{Fine}
use Rattle.cal_model.specs.View.{output_view}
use Rattle.const_env.specs.Counting.{names_view}
use Rattle.cal_check.specs.Actions.{outputs_on}
use Rattle.check_member.specs.Asking.{outputs_tree, port_views}
use Rattle.check_build_action.proofs.output.outputs_on.Given as goal

abbrev pub invariant-outputs : goal.invariant-outputs
invariant-outputs l =
    outputs_on (outputs_tree l.initial.rest) l.initial.left (port_views l.outs) (names_view l.names)
    ≡ map Fine (map output_view l.found.items) ++ outputs_on (outputs_tree l.rest) l.left (port_views l.outs) (names_view l.names)

abbrev pub decreases-outputs : goal.decreases-outputs
decreases-outputs l = length l.rest
