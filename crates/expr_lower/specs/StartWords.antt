-- The words of the contracts of calls that lower the start of a list.
-- Trusted but for `AddsStartAt`: part of what a promise means.
use Rattle.std.specs.Prelude.{◌≡◌, ℕ, ◌+◌, List, Option, Some}
use Rattle.cal_ast.specs.Tree.{Tree}
use Rattle.cal_ast.specs.View.{optional_expr}
use Rattle.cal_ast.specs.declared.expr.Expr.{Expr}
use Rattle.cal_model.specs.Actor.{Local}
use Rattle.cal_model.specs.Value.{Shape, scalars_of_type}
use Rattle.code_ir.specs.declared.instr.Instr.{Instr}
use Rattle.lower_base.specs.declared.draft.Draft.{Draft}
use Rattle.lower_base.specs.declared.scope.Scope.{Scope}
use Rattle.lower_base.specs.Callees.{Function}
use Rattle.lower_base.specs.Lowered.{Adds}
use Rattle.lower_base.specs.Names.{Name}
use Rattle.lower_base.specs.Parted.{sized}
use Rattle.lower_base.specs.Seen.{called, seen}
use Rattle.expr_lower.specs.declared.starts.Row.{Row}
use Rattle.expr_lower.specs.ListStarting.{IsListStart, StartsLocal}

-- code that starts a list in the next cells, as many as it has numbers
abbrev pub TakesListStart : List Function → List Name → Shape → Tree → ℕ → ℕ → List Instr → ℕ → Type 0
TakesListStart fs names t start base n code m =
    IsListStart fs names t n start base (n + scalars_of_type t) code m

-- cells were taken for a list, and the code of its start was added
abbrev pub AddsListStart : Scope → Shape → Option Expr → Draft → Draft → Type 0
AddsListStart scope t e old new =
    Adds (TakesListStart (called scope) (seen scope) t (optional_expr e)) old new

-- cells were taken for a local, and the code of its start was added
abbrev pub AddsLocal : Scope → Local → Draft → Draft → Type 0
AddsLocal scope x old new = Adds (StartsLocal (called scope) (seen scope) x) old new

-- the code of the start of a list was added, whose cells were taken before
abbrev pub AddsStartAt : Scope → Shape → ℕ → Option Expr → Draft → Draft → Type 0
AddsStartAt scope t c e old new =
    Adds (IsListStart (called scope) (seen scope) t c (optional_expr e)) old new

-- as many cells were added to a draft as a list has numbers, and nothing else changed
pub record HasTakenList (t : Shape) (old new : Draft) (row : Row) : Type 0 where
  pub size : sized t ≡ Some row.size
  pub is : row.first ≡ old.cells
  pub instrs : new.instrs.items ≡ old.instrs.items
  pub routines : new.routines.items ≡ old.routines.items
  pub cells : new.cells ≡ old.cells + row.size
