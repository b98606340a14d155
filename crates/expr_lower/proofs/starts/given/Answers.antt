use Rattle.std.proofs.Common.{◌∷◌, [], Some}
use Rattle.std.proofs.lemmas.Result.{on_ok_weaker}
use Rattle.cal_ast.specs.Tree as tree
use Rattle.cal_ast.specs.View.{expr_tree}
use Rattle.code_ir.specs.declared.instr.Instr.TheVariants as op
use Rattle.lower_base.specs.Coding.{IsCode}
use Rattle.lower_base.specs.Seen.{called, seen}
use Rattle.lower_base.specs.Starting.{IsStart, at_value}
use Rattle.lower_base.proofs.Adding.{then_put}
use Rattle.expr_lower.proofs.starts.given.Goals as goal

pub returns-clause-ok : goal.returns-clause-ok
returns-clause-ok c =
    on_ok_weaker c.put.result
    (then_put (IsCode (called c.args.scope.now) (seen c.args.scope.now) (expr_tree c.args.e.now)) (IsStart (called c.args.scope.now) (seen c.args.scope.now) c.args.kind c.args.cell (tree.present (expr_tree c.args.e.now))) (op.Store c.args.cell (Some c.args.kind) ∷ []) c.args.draft.now c.lower.new.draft c.put.new.draft
    (λ base n m code h. at_value (expr_tree c.args.e.now) base n m code h) c.in_ok-lower.ensures.ok)
    c.put.ensures.added
