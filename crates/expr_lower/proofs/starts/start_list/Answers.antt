use Rattle.cal_ast.specs.View.{optional_expr}
use Rattle.cal_model.specs.View.{shape_view}
use Rattle.lower_base.specs.Seen.{called, seen}
use Rattle.expr_lower.proofs.StartingLists.{start_adds}
use Rattle.expr_lower.proofs.starts.start_list.Goals as goal

pub returns-clause-ok : goal.returns-clause-ok
returns-clause-ok c =
    start_adds (called c.args.scope.now) (seen c.args.scope.now) (shape_view c.args.shape.now) (optional_expr c.args.value.now) c.in_ok-row.row c.args.draft.now c.take_list.new.draft c.put_start.new.draft
    c.in_ok-row.ensures.taken c.in_ok-put_start.ensures.ok
