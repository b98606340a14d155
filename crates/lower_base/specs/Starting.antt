-- The code of the start of a local, which stands in a cell, and what is left out of the start of any local.
-- Trusted: part of what a promise means.
use Rattle.std.specs.Prelude.{ℕ, pos, List, [], ◌∷◌, ◌++◌, Option, None, Some}
use Rattle.rvc_base.specs.declared.scalar.Scalar.{Scalar}
use Rattle.cal_ast.specs.Tree as tree
use Rattle.cal_ast.specs.Tree.{Tree}
use Rattle.cal_ast.specs.View.{optional}
use Rattle.cal_model.specs.Actor.{Local}
use Rattle.cal_model.specs.Value.{Shape}
use Rattle.code_ir.specs.declared.instr.Instr.{Instr}
use Rattle.code_ir.specs.declared.instr.Instr.TheVariants as op
use Rattle.lower_base.specs.Callees.{Function}
use Rattle.lower_base.specs.Coding.{IsCode}
use Rattle.lower_base.specs.Growing.{left_out_fill, left_out_in}
use Rattle.lower_base.specs.Listed.{single_of}
use Rattle.lower_base.specs.Names.{Name}
use Rattle.lower_base.specs.Types.{type_size}

-- Code that gives a local of a type its start, in a cell.
pub data IsStart (fs : List Function) (names : List Name) (t : Scalar) (c : ℕ) :
    Tree → ℕ → ℕ → List Instr → ℕ → Type 0 where
  at_zero : (base n : ℕ)
      → IsStart fs names t c tree.absent base n (op.Const (pos 0) ∷ op.Store c None ∷ []) n
  at_value : (e : Tree) (base n m : ℕ) (code : List Instr) → IsCode fs names e base n code m
      → IsStart fs names t c (tree.present e) base n (code ++ op.Store c (Some t) ∷ []) m

-- what is left out of it
abbrev pub left_out_start : List Function → List Name → Tree → Option ℕ
left_out_start fs names tree.absent = None
left_out_start fs names (tree.present e) = left_out_in fs names e
left_out_start fs names other = Some 0

-- ---- any local

-- what is left out of the start of a list
abbrev pub left_out_list_start : List Function → List Name → Shape → Tree → Option ℕ
left_out_list_start fs names t tree.absent = None
left_out_list_start fs names t (tree.present e) = left_out_fill fs names t e
left_out_list_start fs names t other = Some 0

-- .. of a type whose sizes are allowed
abbrev pub left_out_list_local : List Function → List Name → Local → Option ℕ
left_out_list_local fs names x = elim (type_size x.shape)
    [ None ↦ Some 0 | Some size ↦ left_out_list_start fs names x.shape (optional x.start) ]

-- the place of the first part of the start of a local for which no code is made, or 0 if the sizes of its type aren't
-- allowed
abbrev pub left_out_local : List Function → List Name → Local → Option ℕ
left_out_local fs names x = elim (single_of x.shape) [
  | None ↦ left_out_list_local fs names x
  | Some t ↦ left_out_start fs names (optional x.start)
]
