use Rattle.std.proofs.Common.{◌≡◌, rules, subst}
use Rattle.std.proofs.lemmas.Result.{on_ok_weaker}
use Rattle.lower_base.specs.Lowered.{Adds}
use Rattle.lower_stmt.specs.Stating.{AreStmts}
use Rattle.lower_stmt.specs.StmtSeen.{called, seen}
use Rattle.lower_stmt.specs.StmtWords.{body_of}
use Rattle.lower_stmt.proofs.AddingProcs.{return_adds}
use Rattle.lower_stmt.proofs.procedures.come_back.Goals as goal

pub returns-clause-ok : goal.returns-clause-ok
returns-clause-ok c =
    let here : c.deref.result.now ≡ c.args.p.now.body.items = search rules in
    on_ok_weaker c.put.result
    (return_adds (seen c.args.scope.now) (body_of c.args.p.now.body.items) c.args.draft.now c.lower_all.new.draft c.put.new.draft
    (subst (λ ss. Adds (AreStmts (called c.args.scope.now) (seen c.args.scope.now) (body_of ss)) c.args.draft.now c.lower_all.new.draft) here c.in_ok-lower_all.ensures.ok))
    c.put.ensures.added
