use Rattle.std.proofs.Common.{subst}
use Rattle.std.proofs.lemmas.Result.{on_ok_weaker}
use Rattle.lower_base.specs.Lowered.{Adds}
use Rattle.lower_base.specs.Names.{names_view}
use Rattle.lower_stmt.specs.StmtSeen.{called}
use Rattle.lower_stmt.specs.Stating.{AreStmts}
use Rattle.lower_stmt.specs.StmtWords.{body_of}
use Rattle.lower_stmt.proofs.AddingStmts.{executed}
use Rattle.lower_stmt.proofs.stmts.lower_stmts.Goals as goal

pub returns-clause-lowered : goal.returns-clause-lowered
returns-clause-lowered c =
    on_ok_weaker c.lower_all.result
    (λ a. executed (names_view c.args.names.now) (body_of c.args.body.now) c.args.draft.now c.lower_all.new.draft c.requires.below c.requires.apart c.requires.typed
    (subst (λ rs. Adds (AreStmts rs (names_view c.args.names.now) (body_of c.args.body.now)) c.args.draft.now c.lower_all.new.draft) c.outermost.ensures.routines
    (subst (λ names. Adds (AreStmts (called c.outermost.result) names (body_of c.args.body.now)) c.args.draft.now c.lower_all.new.draft) c.outermost.ensures.names a))) c.lower_all.ensures.ok
