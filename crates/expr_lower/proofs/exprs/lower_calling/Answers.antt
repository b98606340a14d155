use Rattle.std.proofs.Common.{subst}
use Rattle.std.proofs.lemmas.Result.{on_ok_weaker}
use Rattle.cal_ast.specs.View.{expr_tree}
use Rattle.lower_base.specs.Callees.{functions_view}
use Rattle.lower_base.specs.Coding.{IsCode}
use Rattle.lower_base.specs.Lowered.{Adds}
use Rattle.lower_base.specs.Names.{names_view}
use Rattle.lower_base.specs.Seen.{called}
use Rattle.lower_base.proofs.Whole.{lowered_with}
use Rattle.expr_lower.proofs.exprs.lower_calling.Goals as goal

pub returns-clause-lowered : goal.returns-clause-lowered
returns-clause-lowered c =
    on_ok_weaker c.lower.result
    (λ a. lowered_with (functions_view c.args.callees.now) (names_view c.args.names.now) (expr_tree c.args.e.now) c.args.draft.now c.lower.new.draft c.requires.below
    (subst (λ fs. Adds (IsCode fs (names_view c.args.names.now) (expr_tree c.args.e.now)) c.args.draft.now c.lower.new.draft) c.outermost.ensures.callees
    (subst (λ names. Adds (IsCode (called c.outermost.result) names (expr_tree c.args.e.now)) c.args.draft.now c.lower.new.draft) c.outermost.ensures.names a))) c.lower.ensures.ok
