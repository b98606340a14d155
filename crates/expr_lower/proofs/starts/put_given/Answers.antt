use Rattle.std.proofs.Common.{◌∷◌, [], Some, subst}
use Rattle.std.proofs.lemmas.Result.{on_ok_weaker}
use Rattle.cal_ast.specs.View.{expr_tree}
use Rattle.cal_model.specs.View.{shape_view}
use Rattle.code_ir.specs.declared.instr.Instr.TheVariants as op
use Rattle.lower_base.specs.Lowered.{IsPut}
use Rattle.lower_base.specs.Seen.{called, seen}
use Rattle.expr_lower.proofs.StartingLists.{given_adds}
use Rattle.expr_lower.proofs.starts.put_given.Goals as goal

pub returns-clause-ok : goal.returns-clause-ok
returns-clause-ok c =
    on_ok_weaker c.put.result
    (λ p. given_adds (called c.args.scope.now) (seen c.args.scope.now) (shape_view c.args.shape.now) (expr_tree c.args.e.now) c.args.row c.args.draft.now c.fill.new.draft c.put.new.draft c.requires.size c.in_ok-fill.ensures.ok
    (subst (λ t. IsPut (op.Copy c.args.row.first c.args.row.first c.args.row.size (Some t) ∷ []) c.fill.new.draft c.put.new.draft) c.leaf_of-kind.ensures p))
    c.put.ensures.added
