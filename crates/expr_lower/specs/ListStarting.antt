-- The code of the start of a local that may be a list, which stands in the cells from one on.
-- Trusted: part of what a promise means.
use Rattle.std.specs.Prelude.{◌≡◌, ℕ, ◌+◌, List, [], ◌∷◌, ◌++◌, Some}
use Rattle.rvc_base.specs.declared.scalar.Scalar.{Scalar}
use Rattle.cal_ast.specs.Tree as tree
use Rattle.cal_ast.specs.Tree.{Tree}
use Rattle.cal_ast.specs.View.{optional}
use Rattle.cal_model.specs.Actor.{Local}
use Rattle.cal_model.specs.Value.{Shape, Single, Many, IsType, scalars_of_type}
use Rattle.code_ir.specs.declared.instr.Instr.{Instr}
use Rattle.code_ir.specs.declared.instr.Instr.TheVariants as op
use Rattle.lower_base.specs.Callees.{Function}
use Rattle.lower_base.specs.Names.{Name}
use Rattle.lower_base.specs.Starting.{IsStart}
use Rattle.expr_lower.specs.Filling.{IsFill}

-- the type of the single values of a list at any depth
abbrev pub leaf_of : Shape → Scalar
leaf_of (Single t) = t
leaf_of (Many n items) = leaf_of items

-- Code that gives a local of a type its start, in the cells from c on: zeros, or the list, each number of which is then
-- stored in its type.
pub data IsListStart (fs : List Function) (names : List Name) (t : Shape) (c : ℕ) :
    Tree → ℕ → ℕ → List Instr → ℕ → Type 0 where
  all_zero : (base n : ℕ)
      → IsListStart fs names t c tree.absent base n (op.Zero c (scalars_of_type t) ∷ []) n
  all_filled : (e : Tree) (base n m : ℕ) (code : List Instr) → IsFill fs names e t c base n code m
      → IsListStart fs names t c (tree.present e) base n
      (code ++ op.Copy c c (scalars_of_type t) (Some (leaf_of t)) ∷ []) m

-- ---- any local

-- Code that starts a local in the next cells, as many as it has numbers.
pub data StartsLocal (fs : List Function) (names : List Name) (x : Local) :
    ℕ → ℕ → List Instr → ℕ → Type 0 where
  starts_one : (t : Scalar) (base n m : ℕ) (code : List Instr) → x.shape ≡ Single t
      → IsStart fs names t n (optional x.start) base (n + 1) code m
      → StartsLocal fs names x base n code m
  starts_list : (base n m : ℕ) (code : List Instr) → IsType x.shape
      → IsListStart fs names x.shape n (optional x.start) base (n + scalars_of_type x.shape) code m
      → StartsLocal fs names x base n code m
