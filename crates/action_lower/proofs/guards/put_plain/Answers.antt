use Rattle.std.proofs.Common.{refl}
use Rattle.cal_ast.specs.View.{expr_tree}
use Rattle.lower_base.specs.Callees.{functions_view}
use Rattle.lower_base.specs.Names.{names_view}
use Rattle.action_lower.proofs.GuardCode.{answered}
use Rattle.action_lower.proofs.guards.put_plain.Goals as goal

pub returns-clause-code : goal.returns-clause-code
returns-clause-code c =
    answered (functions_view c.args.callees.now) (names_view c.args.names.now) (expr_tree c.args.guard.now) c.args.draft.now c.lower_calling.new.draft (record { instrs = c.push.new.self; routines = c.lower_calling.new.draft.routines; cells = c.lower_calling.new.draft.cells })
    c.in_ok-lower_calling.ensures.lowered (record { is = c.in_ok-push.ensures.items; routines = refl; cells = refl })
