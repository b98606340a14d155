-- The words of the contracts of the parts that lower procedures, over what they see.
-- Not trusted: no promise is read with it.
use Rattle.std.specs.Prelude.{List, map, Option, ℕ}
use Rattle.cal_model.specs.View.{local_view}
use Rattle.cal_model.specs.declared.bound.BoundLocal.{BoundLocal}
use Rattle.cal_model.specs.declared.bound.BoundProc.{BoundProc}
use Rattle.lower_base.specs.declared.callees.Formal.{Formal}
use Rattle.lower_base.specs.declared.draft.Draft.{Draft}
use Rattle.lower_base.specs.Lowered.{Adds}
use Rattle.lower_base.specs.Names.{Name}
use Rattle.lower_base.specs.Routining.{behind_formals}
use Rattle.lower_stmt.specs.declared.scope.StmtScope.{StmtScope}
use Rattle.lower_stmt.specs.Proceeding.{IsProcBody, left_out_proc_body}
use Rattle.lower_stmt.specs.StmtSeen.{called, seen}
use Rattle.lower_stmt.specs.StmtWords.{body_of}

-- the names that are seen behind formals
abbrev pub behind_all : StmtScope → List BoundLocal → List Formal → List Name
behind_all scope formals cells = behind_formals (map local_view formals) cells (seen scope)

-- the code of the locals and of the statements of a procedure was added
abbrev pub AddsProcBody : StmtScope → List Name → BoundProc → List BoundLocal → Draft → Draft → Type 0
AddsProcBody scope names p locals old new =
    Adds (IsProcBody (called scope) (body_of p.body.items) names (map local_view locals)) old new

abbrev pub left_out_of_proc : StmtScope → List Name → BoundProc → List BoundLocal → Option ℕ
left_out_of_proc scope names p locals =
    left_out_proc_body (called scope) names (map local_view locals) (body_of p.body.items)
