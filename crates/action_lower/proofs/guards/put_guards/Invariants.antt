use Rattle.std.proofs.Common.{map, take}
use Rattle.cal_ast.specs.View.{expr_tree}
use Rattle.lower_base.specs.Callees.{functions_view}
use Rattle.lower_base.specs.Names.{names_view}
use Rattle.action_lower.proofs.GuardCode.{AreAdded}
use Rattle.action_lower.proofs.guards.put_guards.Given as goal

abbrev pub invariant-loop-guard : goal.invariant-loop-guard
invariant-loop-guard l = AreAdded l.clears (functions_view l.callees) (names_view l.names) (map expr_tree (take l.guard-index l.guards)) l.entries.items l.initial.draft l.draft
