use Rattle.std.proofs.Common.{◌∙◌}
use Rattle.cal_model.specs.View.{local_view}
use Rattle.lower_base.specs.Seen.{called, seen}
use Rattle.expr_lower.proofs.StartingLists.{local_one, one_adds}
use Rattle.expr_lower.proofs.starts.start_one.Goals as goal

pub returns-clause-ok : goal.returns-clause-ok
returns-clause-ok c =
    one_adds (called c.args.scope.now) (seen c.args.scope.now) (local_view c.args.x.now) c.args.kind c.in_ok-cell.cell c.args.draft.now c.take_cell.new.draft c.start.new.draft c.requires.one c.in_ok-cell.ensures.taken c.in_ok-start.ensures.ok

pub returns-clause-whole : goal.returns-clause-whole
returns-clause-whole c = local_one (called c.args.scope.now) (seen c.args.scope.now) (local_view c.args.x.now) c.args.kind c.requires.one ∙ c.in_ok-start.ensures.whole
