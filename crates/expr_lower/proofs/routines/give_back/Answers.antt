use Rattle.std.proofs.lemmas.Result.{on_ok_weaker}
use Rattle.cal_ast.specs.View.{expr_tree}
use Rattle.lower_base.specs.Seen.{seen}
use Rattle.lower_base.proofs.AddingRoutines.{return_adds}
use Rattle.expr_lower.proofs.routines.give_back.Goals as goal

pub returns-clause-ok : goal.returns-clause-ok
returns-clause-ok c =
    on_ok_weaker c.put_all.result
    (return_adds (seen c.args.scope.now) c.args.f.now.result (expr_tree c.args.f.now.body) c.in_ok-cell.cell c.args.draft.now c.take_cell.new.draft c.lower.new.draft c.put_all.new.draft c.in_ok-cell.ensures.taken c.in_ok-lower.ensures.ok)
    c.put_all.ensures.added
