use Rattle.std.proofs.Common.{sym, subst}
use Rattle.std.specs.Prelude.{OnOk}
use Rattle.std.proofs.lemmas.Result.{on_ok_weaker}
use Rattle.cal_model.specs.View.{shape_view}
use Rattle.lower_base.specs.Seen.{called, seen}
use Rattle.expr_lower.specs.StartWords.{AddsStartAt}
use Rattle.expr_lower.proofs.StartingLists.{zero_adds}
use Rattle.expr_lower.proofs.starts.put_start.Goals as goal

pub returns-in-None-clause-ok : goal.returns-in-None-clause-ok
returns-in-None-clause-ok c =
    subst (λ e. OnOk c.put.result (AddsStartAt c.args.scope.now (shape_view c.args.shape.now) c.args.row.first e c.args.draft.now c.put.new.draft)) (sym c.in-None.is)
    (on_ok_weaker c.put.result
    (zero_adds (called c.args.scope.now) (seen c.args.scope.now) (shape_view c.args.shape.now) c.args.row c.args.draft.now c.put.new.draft c.requires.size)
    c.put.ensures.added)
