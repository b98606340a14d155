use Rattle.std.proofs.Common.{sym}
use Rattle.std.proofs.lemmas.Result.{on_ok_weaker}
use Rattle.cal_model.specs.View.{local_view}
use Rattle.lower_base.specs.Seen.{called, seen}
use Rattle.expr_lower.proofs.StartingLists.{list_local_adds}
use Rattle.expr_lower.proofs.starts.start_sized.Goals as goal

pub returns-clause-ok : goal.returns-clause-ok
returns-clause-ok c =
    on_ok_weaker c.start_list.result
    (list_local_adds (called c.args.scope.now) (seen c.args.scope.now) (local_view c.args.x.now) _ c.args.draft.now c.start_list.new.draft (sym c.in-Some.ensures))
    c.start_list.ensures.ok
