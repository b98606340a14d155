use Rattle.std.proofs.Common.{map, take}
use Rattle.cal_model.specs.View.{port_view}
use Rattle.lower_base.specs.Callees.{functions_view}
use Rattle.lower_base.specs.Names.{names_view}
use Rattle.action_lower.proofs.OutputCode.{AreSentSoFar}
use Rattle.action_lower.proofs.outputs.lower_outputs.Given as goal

abbrev pub invariant-loop-output : goal.invariant-loop-output
invariant-loop-output l = AreSentSoFar (functions_view l.callees) (names_view l.names) (map port_view l.ports) (take l.output-index l.outputs) l.firsts.items l.initial.draft l.draft
