use Rattle.std.proofs.Common.{subst}
use Rattle.std.proofs.lemmas.Result.{on_ok_weaker}
use Rattle.cal_ast.specs.View.{expr_tree}
use Rattle.cal_model.specs.View.{shape_view}
use Rattle.lower_base.specs.Callees.{functions_view}
use Rattle.lower_base.specs.Lowered.{Adds}
use Rattle.lower_base.specs.Names.{names_view}
use Rattle.lower_base.specs.Seen.{called}
use Rattle.expr_lower.specs.Filling.{IsFill}
use Rattle.expr_lower.proofs.Whole.{filled}
use Rattle.expr_lower.proofs.lists.lower_list.Goals as goal

pub returns-clause-lowered : goal.returns-clause-lowered
returns-clause-lowered c =
    on_ok_weaker c.fill.result
    (λ a. filled (functions_view c.args.callees.now) (names_view c.args.names.now) (expr_tree c.args.e.now) (shape_view c.args.shape.now) c.args.cell c.args.draft.now c.fill.new.draft c.requires.below c.requires.cells
    (subst (λ fs. Adds (IsFill fs (names_view c.args.names.now) (expr_tree c.args.e.now) (shape_view c.args.shape.now) c.args.cell) c.args.draft.now c.fill.new.draft) c.outermost.ensures.callees
    (subst (λ names. Adds (IsFill (called c.outermost.result) names (expr_tree c.args.e.now) (shape_view c.args.shape.now) c.args.cell) c.args.draft.now c.fill.new.draft) c.outermost.ensures.names a))) c.fill.ensures.ok
