use Rattle.std.proofs.Common.{◌≡◌, ◌+◌, map, take}
use Rattle.cal_ast.specs.View.{expr_tree}
use Rattle.lower_base.specs.Callees.{functions_view}
use Rattle.lower_base.specs.Names.{names_view}
use Rattle.action_lower.proofs.OutputCode.{AreAdded}
use Rattle.action_lower.proofs.outputs.put_values.Given as goal

abbrev pub invariant-loop-value : goal.invariant-loop-value
invariant-loop-value l = (l.at ≡ l.cell + l.value-index)
    × AreAdded (functions_view l.callees) (names_view l.names) l.kind (map expr_tree (take l.value-index l.values)) l.cell l.initial.draft l.draft
