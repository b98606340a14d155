-- The words of the contracts of the parts that lower functions, over what they see.
-- Not trusted: no promise is read with it.
use Rattle.std.specs.Prelude.{◌≡◌, ℕ, ◌+◌, List, ◌++◌, length, map, Option}
use Rattle.cal_ast.specs.View.{expr_tree}
use Rattle.cal_model.specs.Actor.{Local}
use Rattle.cal_model.specs.View.{local_view}
use Rattle.cal_model.specs.declared.bound.BoundFun.{BoundFun}
use Rattle.cal_model.specs.declared.bound.BoundLocal.{BoundLocal}
use Rattle.lower_base.specs.Calling.{AreInRow}
use Rattle.lower_base.specs.declared.callees.Formal.{Formal}
use Rattle.lower_base.specs.declared.draft.Draft.{Draft}
use Rattle.lower_base.specs.declared.scope.Scope.{Scope}
use Rattle.lower_base.specs.Lowered.{Adds}
use Rattle.lower_base.specs.Names.{Name}
use Rattle.lower_base.specs.Routining.{IsBody, StandForFormals, behind_formals, left_out_body}
use Rattle.lower_base.specs.Seen.{called, seen}

-- the names that are seen behind formals
abbrev pub behind_all : Scope → List BoundLocal → List Formal → List Name
behind_all scope formals cells = behind_formals (map local_view formals) cells (seen scope)

-- the code of the locals and of the body of a function was added
abbrev pub AddsFunBody : Scope → List Name → BoundFun → List BoundLocal → Draft → Draft → Type 0
AddsFunBody scope names f locals old new =
    Adds (IsBody (called scope) f.result (expr_tree f.body) names (map local_view locals)) old new

abbrev pub left_out_of_body : Scope → List Name → BoundFun → List BoundLocal → Option ℕ
left_out_of_body scope names f locals =
    left_out_body (called scope) names (map local_view locals) (expr_tree f.body)

-- cells were taken for formals, one after the other
pub record HasFormalCells (xs : List Local) (before now : List Formal) (old new : Draft) : Type 0 where
  pub formals : List Formal
  pub is : now ≡ before ++ formals
  pub stand : StandForFormals xs formals
  pub row : AreInRow old.cells formals
  pub instrs : new.instrs.items ≡ old.instrs.items
  pub routines : new.routines.items ≡ old.routines.items
  pub cells : new.cells ≡ old.cells + length formals
