-- The words of the contracts of the parts that lower, over what they see.
-- Not trusted: no promise is read with it.
use Rattle.std.specs.Prelude.{◌≡◌, ℕ, List, Option, None, Some}
use Rattle.rvc_base.specs.declared.scalar.Scalar.{Scalar}
use Rattle.cal_ast.specs.Tree.{Tree}
use Rattle.cal_ast.specs.View.{expr_tree, optional_expr}
use Rattle.cal_ast.specs.declared.expr.BinOp.{BinOp}
use Rattle.cal_ast.specs.declared.expr.Expr.{Expr}
use Rattle.code_ir.specs.declared.instr.Instr.{Instr}
use Rattle.lower_base.specs.declared.draft.Draft.{Draft}
use Rattle.lower_base.specs.declared.fault.LowerFault.{LowerFault}
use Rattle.lower_base.specs.declared.scope.Scope.{Scope}
use Rattle.lower_base.specs.Coding.{AreArgs, IsCode, IsOffset, IsOpenTest, binary_instr}
use Rattle.lower_base.specs.Growing.{IsFault, left_out_args, left_out_in, left_out_places, ◌or_else◌}
use Rattle.lower_base.specs.Lowered.{Adds}
use Rattle.lower_base.specs.PartView.{places_of}
use Rattle.lower_base.specs.Seen.{called, seen}
use Rattle.lower_base.specs.Starting.{IsStart, left_out_start}
use Rattle.lower_base.specs.Words.{binary_of}

-- ---- expressions

-- the code of an expression was added to a draft
abbrev pub Lowers : Scope → Tree → Draft → Draft → Type 0
Lowers scope e old new = Adds (IsCode (called scope) (seen scope) e) old new

-- the code of both operands was added, and the instruction of the operator between them
abbrev pub Applies : Scope → Instr → Expr → Expr → Draft → Draft → Type 0
Applies scope i left right old new = (op : BinOp) (at : ℕ) → binary_instr op ≡ Some i
    → Lowers scope (binary_of op left right at) old new

-- the code of a condition was added whose jumps have no target yet
abbrev pub Opens : Scope → Tree → Draft → Draft → Type 0
Opens scope e old new = Adds (IsOpenTest (called scope) (seen scope) e) old new

-- the code of the offset of a part of a list was added
abbrev pub Offsets : Scope → Tree → Draft → Draft → Type 0
Offsets scope e old new = Adds (IsOffset (called scope) (seen scope) e) old new

-- no part of the indexes of a chain is left out
abbrev pub AreAllPlaces : Scope → Tree → Type 0
AreAllPlaces scope e = left_out_places (called scope) (seen scope) e ≡ None

-- why these aren't lowered
abbrev pub IsWhyPlaces : Scope → Tree → Draft → LowerFault → Type 0
IsWhyPlaces scope e draft fault = IsFault (left_out_places (called scope) (seen scope) e) draft fault

-- the code of arguments was added
abbrev pub AddsArgs : Scope → List Expr → Draft → Draft → Type 0
AddsArgs scope args old new = Adds (AreArgs (called scope) (seen scope) (places_of args)) old new

-- the first part of arguments that is left out
abbrev pub left_out_of_args : Scope → List Expr → Option ℕ
left_out_of_args scope args = left_out_args (called scope) (seen scope) (places_of args)

-- no part of an expression is left out
abbrev pub IsAll : Scope → Tree → Type 0
IsAll scope e = left_out_in (called scope) (seen scope) e ≡ None

-- why an expression isn't lowered
abbrev pub IsWhy : Scope → Tree → Draft → LowerFault → Type 0
IsWhy scope e draft fault = IsFault (left_out_in (called scope) (seen scope) e) draft fault

-- the place of the first part of two expressions that is left out
abbrev pub first_left_out : Scope → Expr → Expr → Option ℕ
first_left_out scope first second =
    left_out_in (called scope) (seen scope) (expr_tree first)
    or_else left_out_in (called scope) (seen scope) (expr_tree second)

-- ---- locals

-- the start of a local in a cell
abbrev pub AddsStart : Scope → Scalar → ℕ → Option Expr → Draft → Draft → Type 0
AddsStart scope t c e old new = Adds (IsStart (called scope) (seen scope) t c (optional_expr e)) old new

abbrev pub left_out_first : Scope → Option Expr → Option ℕ
left_out_first scope e = left_out_start (called scope) (seen scope) (optional_expr e)
