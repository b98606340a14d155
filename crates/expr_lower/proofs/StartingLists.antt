-- The code of the start of a list that was added to a draft, part by part.
use Rattle.std.proofs.Common.{◌≡◌, ℕ, ◌+◌, List, [], ◌∷◌, ◌++◌, length, sym, ap, ◌∙◌, subst, Some, Option, None}
use Rattle.rvc_base.specs.declared.scalar.Scalar.{Scalar}
use Rattle.cal_ast.specs.View.{optional}
use Rattle.cal_model.specs.Actor.{Local}
use Rattle.lower_base.specs.Listed.{single_of}
use Rattle.lower_base.specs.Starting.{IsStart, left_out_list_local, left_out_list_start, left_out_local, left_out_start}
use Rattle.lower_base.specs.Taking.{HasOneMore}
use Rattle.lower_base.proofs.AddingRoutines.{single_is}
use Rattle.lower_base.proofs.Erased.{in_either}
use Rattle.lower_base.specs.Types.{type_size}
use Rattle.expr_lower.proofs.TypeSizes.{size_typed}
use Rattle.cal_ast.specs.Tree as tree
use Rattle.cal_ast.specs.Tree.{Tree}
use Rattle.cal_model.specs.Value.{Shape, scalars_of_type}
use Rattle.code_ir.specs.declared.instr.Instr.TheVariants as op
use Rattle.lower_base.specs.declared.draft.Draft.{Draft}
use Rattle.lower_base.specs.Callees.{Function}
use Rattle.lower_base.specs.Lowered.{Adds, IsPut}
use Rattle.lower_base.specs.Names.{Name}
use Rattle.lower_base.specs.Parted.{sized}
use Rattle.lower_base.proofs.Adding.{put_adds, same_adds, then_put}
use Rattle.lower_base.proofs.PartValues.{sized_is}
use Rattle.expr_lower.specs.Filling.{IsFill}
use Rattle.expr_lower.specs.declared.starts.Row.{Row}
use Rattle.expr_lower.specs.ListStarting.{IsListStart, StartsLocal, all_filled, all_zero, leaf_of, starts_list, starts_one}
use Rattle.expr_lower.specs.StartWords.{HasTakenList, TakesListStart}

module _ (fs : List Function) (names : List Name) (t : Shape) where
  pub zero_adds : (row : Row) (old new : Draft) → sized t ≡ Some row.size → IsPut (op.Zero row.first row.size ∷ []) old new → Adds (IsListStart fs names t row.first tree.absent) old new
  zero_adds row old new size p =
      let many : row.size ≡ scalars_of_type t = sym (sized_is t row.size size) in
      put_adds (IsListStart fs names t row.first tree.absent) (op.Zero row.first (scalars_of_type t) ∷ []) old new
      (subst (λ n. IsPut (op.Zero row.first n ∷ []) old new) many p) (λ base n. all_zero base n)

  pub given_adds : (e : Tree) (row : Row) (old mid new : Draft) → sized t ≡ Some row.size → Adds (IsFill fs names e t row.first) old mid → IsPut (op.Copy row.first row.first row.size (Some (leaf_of t)) ∷ []) mid new
      → Adds (IsListStart fs names t row.first (tree.present e)) old new
  given_adds e row old mid new size a p =
      let many : row.size ≡ scalars_of_type t = sym (sized_is t row.size size) in
      then_put (IsFill fs names e t row.first) (IsListStart fs names t row.first (tree.present e)) (op.Copy row.first row.first (scalars_of_type t) (Some (leaf_of t)) ∷ []) old mid new
      (λ base n m code h. all_filled e base n m code h) a (subst (λ n. IsPut (op.Copy row.first row.first n (Some (leaf_of t)) ∷ []) mid new) many p)

  -- the cells were taken, and then the start was added
  pub start_adds : (start : Tree) (row : Row) (old mid new : Draft) → HasTakenList t old mid row → Adds (IsListStart fs names t row.first start) mid new → Adds (TakesListStart fs names t start) old new
  start_adds start row old mid new taken a =
      let many : row.size ≡ scalars_of_type t = sym (sized_is t row.size taken.size) in
      record {
        code = a.code;
        is = a.is ∙ ap (λ is. is ++ a.code) taken.instrs;
        routines = a.routines ∙ taken.routines;
        has = subst (λ k. IsListStart fs names t old.cells start (length old.instrs.items) (old.cells + k) a.code new.cells) many
            (subst (λ c. IsListStart fs names t c start (length old.instrs.items) (old.cells + row.size) a.code new.cells) taken.is
            (subst (λ n. IsListStart fs names t row.first start (length old.instrs.items) n a.code new.cells) taken.cells
            (subst (λ is. IsListStart fs names t row.first start (length is) mid.cells a.code new.cells) taken.instrs a.has)));
      }

-- ---- any local

pub one_adds : (fs : List Function) (names : List Name) (x : Local) (kind : Scalar) (c : ℕ) (old d1 d2 : Draft) → single_of x.shape ≡ Some kind → HasOneMore old d1 c → Adds (IsStart fs names kind c (optional x.start)) d1 d2 → Adds (StartsLocal fs names x) old d2
one_adds fs names x kind c old d1 d2 shape taken f = record {
  code = f.code;
  is = f.is ∙ ap (λ is. is ++ f.code) taken.instrs;
  routines = f.routines ∙ taken.routines;
  has = starts_one kind (length old.instrs.items) old.cells d2.cells f.code (single_is x.shape kind shape)
      (subst (λ y. IsStart fs names kind y (optional x.start) (length old.instrs.items) (old.cells + 1) f.code d2.cells) taken.is
      (subst (λ n. IsStart fs names kind c (optional x.start) (length old.instrs.items) n f.code d2.cells) taken.cells
      (subst (λ is. IsStart fs names kind c (optional x.start) (length is) d1.cells f.code d2.cells) taken.instrs f.has)));
}

pub list_local_adds : (fs : List Function) (names : List Name) (x : Local) (size : ℕ) (old new : Draft) → type_size x.shape ≡ Some size → Adds (TakesListStart fs names x.shape (optional x.start)) old new → Adds (StartsLocal fs names x) old new
list_local_adds fs names x size old new sized f =
    same_adds (TakesListStart fs names x.shape (optional x.start)) (StartsLocal fs names x) old new (λ base n m code h. starts_list base n m code (size_typed x.shape size sized).0 h) f

-- what is left out of one local
pub local_one : (fs : List Function) (names : List Name) (x : Local) (kind : Scalar) → single_of x.shape ≡ Some kind → left_out_local fs names x ≡ left_out_start fs names (optional x.start)
local_one fs names x kind e = ap (λ o. in_either o (type_size x.shape) (λ t. left_out_start fs names (optional x.start)) (left_out_list_start fs names x.shape (optional x.start))) e

pub local_list_is : (fs : List Function) (names : List Name) (x : Local) (size : ℕ) → type_size x.shape ≡ Some size → left_out_list_local fs names x ≡ left_out_list_start fs names x.shape (optional x.start)
local_list_is fs names x size e = ap (λ (o : Option ℕ). elim o [ None ↦ Some 0 | Some k ↦ left_out_list_start fs names x.shape (optional x.start) ]) e
