-- A type whose sizes are written out is seen to be what it is judged to be.
use Rattle.std.proofs.Common.{◌≡◌, ℕ, zero, suc, ◌*◌, ◌≤◌, ℤ, pos, negsuc, Bool, true, false, List, [], ◌∷◌, codes, refl, ap, ◌∙◌, subst, Option, None, Some, arith}
use Rattle.std.specs.Prelude.{◌&&◌, if◌then◌else◌, nat_le}
use Rattle.std.specs.Str.{bytes_eq}
use Rattle.std.proofs.lemmas.Bool.Decides.{nat_tests}
use Rattle.rvc_base.specs.declared.scalar.Scalar.{Scalar}
use Rattle.rvc_base.specs.declared.scalar.Scalar.TheVariants as scalar
use Rattle.rvc_base.specs.Rules.{unknown_name, unsupported_type, wrong_kind, wrong_type_argument}
use Rattle.rvc_base.specs.Storing.{IsSize}
use Rattle.rvc_base.specs.Width.{default_size, max_size}
use Rattle.cal_ast.specs.Tree as tree
use Rattle.cal_ast.specs.Tree.{Tree}
use Rattle.cal_model.specs.Value.{Shape, Single, Many, IsType, max_list_scalars, scalars_of_type}
use Rattle.cal_model.specs.Expression.{bits, list_of}
use Rattle.cal_model.specs.Kinding.{Fine, Broken, Names, Argument, OfShape, OfSize, and_so, bits_of, constant_number, is_word, kind, list_type, list_type_of, number_type, truth_type, type_arguments, type_judged, type_with}
use Rattle.cal_model.specs.Sound.{IsPlain}
use Rattle.cal_model.proofs.KindValues.{both, fine-is, not-fine, split, tested}
use Rattle.lower_base.specs.Bounds.{bound_of}
use Rattle.lower_base.specs.Meant.{only_size, single_in, single_meant, size_of, size_written}
use Rattle.expr_lower.specs.ShapeMeant.{items_of_type, list_of_each, list_sized, many_meant, shape_meant}
use Rattle.law_forms.proofs.Like.{few_items, sized_type}
use Rattle.law_forms.proofs.WrittenOut.{constant_bound}

-- ---- arguments

-- the arguments of a type are seen to be what they are judged to be
abbrev AreGiven : List Argument → Tree → Type 0
AreGiven [] tree.nil = Unit {0}
AreGiven (OfSize w z ∷ g) (tree.cons (tree.value_arg name value) args) = (bound_of value ≡ Some z) × AreGiven g args
AreGiven (OfShape w t ∷ g) (tree.cons (tree.shape_arg name shape) args) = (shape_meant shape ≡ Some t) × IsType t × AreGiven g args
AreGiven g args = ⊥

nil_alone : (args : Tree) → AreGiven [] args → size_written args ≡ Some None
nil_alone tree.nil d = refl
nil_alone args d = absurd d

size_alone : (args : Tree) (w : List ℕ) (z : ℤ) → AreGiven (OfSize w z ∷ []) args → size_written args ≡ size_of (Some z)
size_alone (tree.cons (tree.value_arg name value) tree.nil) w z d = ap size_of d.0
size_alone (tree.cons (tree.value_arg name value) args) w z d = absurd d.1
size_alone args w z d = absurd d

-- a type of items and a size, in either order
record IsPair (args : Tree) (u : Shape) (z : ℤ) : Type 0 where
  none : size_written args ≡ None
  items : items_of_type args ≡ many_meant (size_of (Some z)) (Some u)
  typed : IsType u

shape_and_size : (args : Tree) (w v : List ℕ) (u : Shape) (z : ℤ) → AreGiven (OfShape w u ∷ OfSize v z ∷ []) args → IsPair args u z
shape_and_size (tree.cons (tree.shape_arg name shape) (tree.cons (tree.value_arg other value) tree.nil)) w v u z d = record {
  none = refl;
  items = ap (λ o. many_meant (size_of o) (shape_meant shape)) d.2.0 ∙ ap (λ o. many_meant (size_of (Some z)) o) d.0;
  typed = d.1;
}
shape_and_size (tree.cons (tree.shape_arg name shape) (tree.cons (tree.value_arg other value) args)) w v u z d = absurd d.2.1
shape_and_size (tree.cons (tree.shape_arg name shape) args) w v u z d = absurd d.2
shape_and_size args w v u z d = absurd d

size_and_shape : (args : Tree) (w v : List ℕ) (u : Shape) (z : ℤ) → AreGiven (OfSize v z ∷ OfShape w u ∷ []) args → IsPair args u z
size_and_shape (tree.cons (tree.value_arg name value) (tree.cons (tree.shape_arg other shape) tree.nil)) w v u z d = record {
  none = refl;
  items = ap (λ o. many_meant (size_of o) (shape_meant shape)) d.0 ∙ ap (λ o. many_meant (size_of (Some z)) o) d.1.0;
  typed = d.1.1;
}
size_and_shape (tree.cons (tree.value_arg name value) (tree.cons (tree.shape_arg other shape) args)) w v u z d = absurd d.1.2
size_and_shape (tree.cons (tree.value_arg name value) args) w v u z d = absurd d.1
size_and_shape args w v u z d = absurd d

-- ---- types by their arguments

-- a type of single values is seen to be that, and one of lists to be none of single values
abbrev SeenAs : Option Scalar → Option Shape → Shape → Type 0
SeenAs o p (Single s) = o ≡ Some s
SeenAs o p (Many n items) = (o ≡ None) × (p ≡ Some (Many n items))

-- .. and is allowed
abbrev IsSeenAs : Option Scalar → Option Shape → Shape → Type 0
IsSeenAs o p t = SeenAs o p t × IsType t

single_seen : (o : Option Scalar) (p : Option Shape) (s : Scalar) (t : Shape) → Single s ≡ t → IsSize s → o ≡ Some s → IsSeenAs o p t
single_seen o p s t same size e = subst (IsSeenAs o p) same (e, size)

-- the number type that is given by a size, if one is written
abbrev number_in : (ℕ → Scalar) → Option (Option ℕ) → Option Scalar
number_in f o = elim o [ None ↦ None | Some size ↦ single_in (bits size (λ n. Single (f n))) ]

abbrev Sizes : (ℕ → Scalar) → Type 0
Sizes f = (m : ℕ) → 1 ≤ m → m ≤ max_size → IsSize (f m)

bits_seen : (f : ℕ → Scalar) (z : ℤ) (o : Option (Option ℕ)) (p : Option Shape) (at : ℕ) (t : Shape) → Sizes f → bits_of z f at ≡ Fine t → o ≡ size_of (Some z) → IsSeenAs (number_in f o) p t
bits_seen f (negsuc n) o p at t sizes h e = absurd (not-fine _ at t h)
bits_seen f (pos n) o p at t sizes h e =
    let test = tested (nat_le 1 n && nat_le n max_size) (Fine (Single (f n))) wrong_type_argument at t h in
    let two = both (nat_le 1 n) (nat_le n max_size) test.0 in
    let low = two.0 in
    let high = two.1 in
    single_seen (number_in f o) p (f n) t (fine-is (Single (f n)) t test.1) (sizes n (grind (arith, nat_tests, low)) (grind (arith, nat_tests, high)))
    (ap (number_in f) e ∙ ap (λ b. single_in (if b then Some (Single (f n)) else None)) test.0)

numbers_seen : (f : ℕ → Scalar) (g : List Argument) (args : Tree) (p : Option Shape) (at : ℕ) (t : Shape) → Sizes f → AreGiven g args → number_type g f at ≡ Fine t → IsSeenAs (number_in f (size_written args)) p t
numbers_seen f [] args p at t sizes d h =
    single_seen (number_in f (size_written args)) p (f default_size) t (fine-is (Single (f default_size)) t h) (sizes default_size (omega arith) (omega arith)) (ap (number_in f) (nil_alone args d))
numbers_seen f (OfSize w z ∷ []) args p at t sizes d h =
    bits_seen f z (size_written args) p at t sizes (tested (bytes_eq w (codes "size")) (bits_of z f at) wrong_type_argument at t h).1 (size_alone args w z d)
numbers_seen f (OfSize w z ∷ a ∷ g) args p at t sizes d h = absurd (not-fine _ at t h)
numbers_seen f (OfShape w u ∷ g) args p at t sizes d h = absurd (not-fine _ at t h)

all_three : (a b c : Bool) → a ≡ true → b ≡ true → c ≡ true → (a && b) && c ≡ true
all_three a b c p q r = ap (λ x. (x && b) && c) p ∙ ap (λ x. x && c) q ∙ r

-- so many items of a type, if that is allowed
meant_list : (n : ℕ) (u : Shape) → IsType (Many n u) → list_sized n u ≡ Some (Many n u)
meant_list n u typed =
    let some : 1 ≤ n = typed.0 in
    let low : n * scalars_of_type u ≤ max_list_scalars = typed.1 in
    let few : n ≤ max_list_scalars = few_items n u typed in
    let one : nat_le 1 n ≡ true = grind (arith, nat_tests, some) in
    let two : nat_le n max_list_scalars ≡ true = grind (arith, nat_tests, few) in
    let three : nat_le (n * scalars_of_type u) max_list_scalars ≡ true = grind (arith, nat_tests, low) in
    ap (λ (x : Option ℕ). elim x [ None ↦ None | Some each ↦ list_of_each n u each ]) (sized_type u typed.2)
    ∙ ap (λ b. if b then Some (Many n u) else None) (all_three (nat_le 1 n) (nat_le n max_list_scalars) (nat_le (n * scalars_of_type u) max_list_scalars) one two three)

list_seen : (u : Shape) (z : ℤ) (at : ℕ) (t : Shape) (o : Option Scalar) (p : Option Shape) → list_type_of u z at ≡ Fine t → IsType u → o ≡ None → p ≡ many_meant (size_of (Some z)) (Some u) → IsSeenAs o p t
list_seen u (pos zero) at t o p h typed e f = absurd (not-fine _ at t h)
list_seen u (negsuc n) at t o p h typed e f = absurd (not-fine _ at t h)
list_seen u (pos (suc n)) at t o p h typed e f =
    let test = tested (nat_le (scalars_of_type (Many (suc n) u)) max_list_scalars) (Fine (Many (suc n) u)) _ at t h in
    let low : nat_le (suc n * scalars_of_type u) max_list_scalars ≡ true = test.0 in
    let all : IsType (Many (suc n) u) = (omega arith, grind (arith, nat_tests, low), typed) in
    subst (IsSeenAs o p) (fine-is (Many (suc n) u) t test.1) ((e, f ∙ meant_list (suc n) u all), all)

lists_seen : (g : List Argument) (args : Tree) (at : ℕ) (t : Shape) (f : Option ℕ → Option Scalar) → AreGiven g args → list_type g at ≡ Fine t
    → IsSeenAs (elim (size_written args) [ None ↦ None | Some size ↦ f size ]) (items_of_type args) t
lists_seen (OfShape w u ∷ OfSize v z ∷ []) args at t f d h =
    let pair : IsPair args u z = shape_and_size args w v u z d in
    list_seen u z at t (elim (size_written args) [ None ↦ None | Some size ↦ f size ]) (items_of_type args)
    (tested (bytes_eq w (codes "type") && bytes_eq v (codes "size")) (list_type_of u z at) _ at t h).1 pair.typed
    (ap (λ (x : Option (Option ℕ)). elim x [ None ↦ None | Some size ↦ f size ]) pair.none) pair.items
lists_seen (OfSize v z ∷ OfShape w u ∷ []) args at t f d h =
    let pair : IsPair args u z = size_and_shape args w v u z d in
    list_seen u z at t (elim (size_written args) [ None ↦ None | Some size ↦ f size ]) (items_of_type args)
    (tested (bytes_eq w (codes "type") && bytes_eq v (codes "size")) (list_type_of u z at) _ at t h).1 pair.typed
    (ap (λ (x : Option (Option ℕ)). elim x [ None ↦ None | Some size ↦ f size ]) pair.none) pair.items
lists_seen g args at t f d h = absurd (not-fine _ at t h)

truth_seen : (g : List Argument) (args : Tree) (p : Option Shape) (at : ℕ) (t : Shape) → AreGiven g args → truth_type g at ≡ Fine t
    → IsSeenAs (elim (size_written args) [ None ↦ None | Some size ↦ single_in (Some (Single scalar.Bool)) ]) p t
truth_seen [] args p at t d h =
    single_seen (elim (size_written args) [ None ↦ None | Some size ↦ single_in (Some (Single scalar.Bool)) ]) p scalar.Bool t (fine-is (Single scalar.Bool) t h) tt
    (ap (λ (o : Option (Option ℕ)). elim o [ None ↦ None | Some size ↦ single_in (Some (Single scalar.Bool)) ]) (nil_alone args d))
truth_seen (a ∷ g) args p at t d h = absurd (not-fine _ at t h)

-- a type by the tests of its name
named_seen : (a b c l : Bool) (g : List Argument) (args : Tree) (at : ℕ) (t : Shape) → AreGiven g args
    → (if a then truth_type g at else if b then number_type g (λ n. scalar.Int n) at else if c then number_type g (λ n. scalar.Uint n) at else if l then list_type g at else Broken unsupported_type at) ≡ Fine t
    → IsSeenAs (elim (size_written args) [
      | None ↦ None
      | Some size ↦ single_in (if a then Some (Single scalar.Bool) else if b then bits size (λ n. Single (scalar.Int n)) else if c then bits size (λ n. Single (scalar.Uint n)) else if l then list_of (only_size size) else None)
    ]) (if l then items_of_type args else None) t
named_seen true b c l g args at t d h = truth_seen g args (if l then items_of_type args else None) at t d h
named_seen false true c l g args at t d h = numbers_seen (λ n. scalar.Int n) g args (if l then items_of_type args else None) at t (λ m j k. (j, k)) d h
named_seen false false true l g args at t d h = numbers_seen (λ n. scalar.Uint n) g args (if l then items_of_type args else None) at t (λ m j k. (j, k)) d h
named_seen false false false true g args at t d h = lists_seen g args at t (λ size. single_in (list_of (only_size size))) d h
named_seen false false false false g args at t d h = absurd (not-fine _ at t h)

shape_of_seen : (o : Option Scalar) (p : Option Shape) (t : Shape) → SeenAs o p t → (elim o [ Some s ↦ Some (Single s) | None ↦ p ]) ≡ Some t
shape_of_seen o p (Single s) e = ap (λ (x : Option Scalar). elim x [ Some s ↦ Some (Single s) | None ↦ p ]) e
shape_of_seen o p (Many n items) e = ap (λ (x : Option Scalar). elim x [ Some s ↦ Some (Single s) | None ↦ p ]) e.0 ∙ e.1

-- ---- types and their arguments as they are written

abbrev list_part : List ℕ → Tree → Option Shape
list_part name args = if bytes_eq name (codes "List") then items_of_type args else None

of_arguments : (name : List ℕ) (place : ℕ) (args : Tree) (at : ℕ) (known : Names) (t : Shape) → IsPlain args → type_judged (tree.type_of (tree.ident name place) args at) known ≡ Fine t
    → ((g : List Argument) → type_arguments args known ≡ Fine g → AreGiven g args)
    → IsSeenAs (single_meant (tree.type_of (tree.ident name place) args at)) (list_part name args) t
of_arguments name place args at known t plain h given =
    let word = tested (is_word name) (and_so (type_arguments args known) (λ g. type_with name g at)) unknown_name place t h in
    let g = split (type_arguments args known) (λ g. type_with name g at) t word.1 in
    named_seen (bytes_eq name (codes "bool")) (bytes_eq name (codes "int")) (bytes_eq name (codes "uint")) (bytes_eq name (codes "List")) g.0 args at t (given g.0 g.1) g.2

mutual
  pub type_seen : (shape : Tree) (known : Names) (t : Shape) → IsPlain shape → type_judged shape known ≡ Fine t → (shape_meant shape ≡ Some t) × IsType t
  type_seen (tree.type_of (tree.ident name place) args at) known t plain h =
      let seen = of_arguments name place args at known t plain h (λ g e. args_seen args known g plain e) in
      (shape_of_seen (single_meant (tree.type_of (tree.ident name place) args at)) (list_part name args) t seen.0, seen.1)
  type_seen other known t plain h = absurd (not-fine wrong_kind 0 t h)

  args_seen : (args : Tree) (known : Names) (g : List Argument) → IsPlain args → type_arguments args known ≡ Fine g → AreGiven g args
  args_seen tree.nil known g plain h = subst (λ x. AreGiven x tree.nil) (fine-is [] g h) tt
  args_seen (tree.cons (tree.shape_arg (tree.ident name place) shape) args) known g plain h =
      let t = split (type_judged shape known) _ g h in
      let others = split (type_arguments args known) _ g t.2 in
      let seen = type_seen shape known t.0 plain.0 t.1 in
      subst (λ x. AreGiven x (tree.cons (tree.shape_arg (tree.ident name place) shape) args)) (fine-is (OfShape name t.0 ∷ others.0) g others.2)
      (seen.0, seen.1, args_seen args known others.0 plain.1 others.1)
  args_seen (tree.cons (tree.value_arg (tree.ident name place) value) args) known g plain h =
      let z = split (constant_number (kind value known) value known) _ g h in
      let others = split (type_arguments args known) _ g z.2 in
      subst (λ x. AreGiven x (tree.cons (tree.value_arg (tree.ident name place) value) args)) (fine-is (OfSize name z.0 ∷ others.0) g others.2)
      (constant_bound value known z.0 plain.0 z.1, args_seen args known others.0 plain.1 others.1)
  args_seen other known g plain h = absurd (not-fine wrong_kind 0 g h)

-- .. and one of single values is seen to be that
pub scalar_seen : (shape : Tree) (known : Names) (s : Scalar) → IsPlain shape → type_judged shape known ≡ Fine (Single s) → (single_meant shape ≡ Some s) × IsSize s
scalar_seen (tree.type_of (tree.ident name place) args at) known s plain h =
    of_arguments name place args at known (Single s) plain h (λ g e. args_seen args known g plain e)
scalar_seen other known s plain h = absurd (not-fine wrong_kind 0 (Single s) h)

-- .. and one of lists to be none of them
pub many_seen : (shape : Tree) (known : Names) (n : ℕ) (items : Shape) → IsPlain shape → type_judged shape known ≡ Fine (Many n items) → single_meant shape ≡ None
many_seen (tree.type_of (tree.ident name place) args at) known n items plain h =
    let seen = of_arguments name place args at known (Many n items) plain h (λ g e. args_seen args known g plain e) in seen.0.0
many_seen other known n items plain h = absurd (not-fine wrong_kind 0 (Many n items) h)
