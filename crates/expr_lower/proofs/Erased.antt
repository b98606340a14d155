-- Which cells names have doesn't matter to what is left out of lists.
use Rattle.std.proofs.Common.{◌≡◌, ◌≢◌, ℕ, List, ◌∷◌, map, true, false, refl, sym, subst, ap, ◌∙◌, Option, Some, arith}
use Rattle.std.proofs.lemmas.Bool.Decides.{nat_tests}
use Rattle.std.specs.Prelude.{if◌then◌else◌, nat_eq}
use Rattle.rvc_base.specs.declared.scalar.Scalar.{Scalar}
use Rattle.cal_ast.specs.Tree as tree
use Rattle.cal_ast.specs.Tree.{Tree}
use Rattle.cal_model.specs.Value.{Shape, Many}
use Rattle.lower_base.specs.Callees.{Function}
use Rattle.lower_base.specs.Growing.{left_out_in}
use Rattle.lower_base.specs.Names.{Name, local}
use Rattle.lower_base.proofs.Erased.{element_same, erase, gens_erased, inside_gens, out_erased}
pub use Rattle.lower_base.proofs.Erased.{fill_erased, fills_erased}
use Rattle.lower_base.specs.Generators.{Counted, counted_by}
use Rattle.expr_lower.specs.LeftOut.{left_out_element, left_out_fill, left_out_gens, left_out_many, left_out_part}

-- in any cell the variable of a generator leaves out the same
pub any_cell : (fs : List Function) (names : List Name) (text : List ℕ) (t : Scalar) (c : ℕ) (items : Shape) (item gens : Tree)
    → left_out_gens (local text t c ∷ names) gens (λ inner. left_out_element items (left_out_in fs inner item) (left_out_fill fs inner items item))
    ≡ left_out_gens (local text t 0 ∷ names) gens (λ inner. left_out_element items (left_out_in fs inner item) (left_out_fill fs inner items item))
any_cell fs names text t c items item gens =
    let f : List Name → Option ℕ = λ inner. left_out_element items (left_out_in fs inner item) (left_out_fill fs inner items item) in
    let same : (inner : List Name) → f (map erase inner) ≡ f inner =
    λ inner. element_same items (left_out_in fs (map erase inner) item) (left_out_in fs inner item) (left_out_fill fs (map erase inner) items item) (left_out_fill fs inner items item) (out_erased fs inner item) (fill_erased fs inner items item) in
    sym (gens_erased (local text t c ∷ names) gens f same) ∙ gens_erased (local text t 0 ∷ names) gens f same

-- what is left out of elements is what is left out of those that see the variable of the first generator
pub each_left : (fs : List Function) (names : List Name) (x : Counted) (c : ℕ) (items : Shape) (item g gens : Tree) → counted_by g ≡ Some x
    → left_out_gens (local x.text x.kind c ∷ names) gens (λ inner. left_out_element items (left_out_in fs inner item) (left_out_fill fs inner items item))
    ≡ left_out_gens names (tree.cons g gens) (λ inner. left_out_element items (left_out_in fs inner item) (left_out_fill fs inner items item))
each_left fs names x c items item g gens e =
    let f : List Name → Option ℕ = λ inner. left_out_element items (left_out_in fs inner item) (left_out_fill fs inner items item) in
    any_cell fs names x.text x.kind c items item gens ∙ sym (ap (inside_gens names gens f) e)

-- what is left out of a list that has as many items as are meant is what is left out of them
pub many_left : (n at : ℕ) (items : Shape) (o : Option ℕ) (f : Shape → Option ℕ) → o ≡ Some n → left_out_many (Many n items) at o f ≡ f items
many_left n at items o f e =
    let same : nat_eq n n ≡ true = grind (arith, nat_tests) in
    ap (λ x. left_out_many (Many n items) at x f) e ∙ ap (λ b. if b then f items else Some at) same

pub many_not : (n k at : ℕ) (items : Shape) (f : Shape → Option ℕ) → k ≢ n → left_out_many (Many n items) at (Some k) f ≡ Some at
many_not n k at items f other =
    let differ : nat_eq k n ≡ false = grind (arith, nat_tests, other) in
    ap (λ b. if b then f items else Some at) differ

-- what is left out of an index, where a list is meant
pub index_left : (fs : List Function) (names : List Name) (t items : Shape) (n : ℕ) (base place : Tree) (at : ℕ) → t ≡ Many n items
    → left_out_part fs names t base place at ≡ left_out_fill fs names t (tree.index base place at)
index_left fs names t items n base place at e =
    subst (λ u. left_out_part fs names u base place at ≡ left_out_fill fs names u (tree.index base place at)) (sym e) refl
