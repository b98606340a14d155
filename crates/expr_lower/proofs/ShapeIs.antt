-- A type that is seen to be one is that, and is allowed.
use Rattle.std.proofs.Common.{◌≡◌, ℕ, pos, ◌*◌, ◌<◌, ◌≤◌, Bool, true, false, refl, sym, ap, ◌∙◌, subst, List, [], ◌∷◌, length, Option, None, Some, arith}
use Rattle.std.specs.Prelude.{get_or, if◌then◌else◌, codes, nat_le, ◌&&◌}
use Rattle.std.specs.Str.{bytes_eq}
use Rattle.std.proofs.lemmas.Bool.Decides.{nat_tests}
use Rattle.std.proofs.lemmas.Slice.Eq.{bytes_eq-Decides}
use Rattle.rvc_base.specs.declared.scalar.Scalar.{Scalar}
use Rattle.rvc_base.specs.Turns.{max_turns}
use Rattle.cal_ast.specs.Tree as tree
use Rattle.cal_ast.specs.Tree.{Tree, listed}
use Rattle.cal_model.specs.Value.{Shape, Single, Many, Value, Num, IsType, max_list_scalars, scalars_of_type}
use Rattle.cal_model.specs.Outcome.{Out, Gives, alone, and_then, needed}
use Rattle.cal_model.specs.Env.{Env}
use Rattle.cal_model.specs.Expression.{Calls, Given, args_given, eval, size_of_value, type_meant, type_named}
use Rattle.lower_base.specs.Parted.{sized}
use Rattle.lower_base.proofs.PartValues.{sized_is}
use Rattle.lower_base.specs.Meant.{literal_size, single_meant, size_of_arg}
use Rattle.expr_lower.specs.ShapeMeant.{items_of_type, list_of_each, list_sized, many_meant, shape_meant}
use Rattle.lower_base.proofs.Bounded.{bound_gives}
use Rattle.lower_base.proofs.MeantIs.{IsSized, arg_is, meant_is, meant_sized, sized_by}

-- ---- lists that are allowed

-- so many items of a type that is allowed
record IsListOf (n : ℕ) (items t : Shape) : Type 0 where
  is : t ≡ Many n items
  some : 1 ≤ n
  few : scalars_of_type (Many n items) ≤ max_list_scalars

three : (a b c : Bool) → (a && b) && c ≡ true → (a ≡ true) × (c ≡ true)
three true true true e = (refl, refl)
three true true false e = cc
three true false c e = cc
three false b c e = cc

sized_found : (n : ℕ) (items t : Shape) → list_sized n items ≡ Some t → IsListOf n items t
sized_found n items t e = go (sized items) refl e
  where
    fit : (each : ℕ) (b : Bool) → sized items ≡ Some each → (nat_le 1 n && nat_le n max_list_scalars) && nat_le (n * each) max_list_scalars ≡ b → ◌≡◌ {A = Option Shape} (if b then Some (Many n items) else None) (Some t) → IsListOf n items t
    fit each true is h g =
        let tests = three (nat_le 1 n) (nat_le n max_list_scalars) (nat_le (n * each) max_list_scalars) h in
        let low = tests.0 in
        let high = tests.1 in
        let same : Many n items ≡ t = cc in
        record {
          is = sym same;
          some = grind (arith, nat_tests, low);
          few = subst (λ k. n * k ≤ max_list_scalars) (sym (sized_is items each is)) (grind (arith, nat_tests, high));
        }
    fit each false is h g = cc

    go : (o : Option ℕ) → sized items ≡ o → ◌≡◌ {A = Option Shape} (elim o [ None ↦ None | Some each ↦ list_of_each n items each ]) (Some t) → IsListOf n items t
    go None is g = cc
    go (Some each) is g = fit each ((nat_le 1 n && nat_le n max_list_scalars) && nat_le (n * each) max_list_scalars) is refl g

-- both a size and a type are seen
record AreMeant (size : Option (Option ℕ)) (of : Option Shape) (t : Shape) : Type 0 where
  n : ℕ
  items : Shape
  count : size ≡ Some (Some n)
  items_are : of ≡ Some items
  list : IsListOf n items t

many_found : (size : Option (Option ℕ)) (of : Option Shape) (t : Shape) → many_meant size of ≡ Some t → AreMeant size of t
many_found None of t e = cc
many_found (Some None) of t e = cc
many_found (Some (Some n)) None t e = cc
many_found (Some (Some n)) (Some items) t e = record { n = n; items = items; count = refl; items_are = refl; list = sized_found n items t e }

-- ---- what is meant

list_named_so : (name : List ℕ) (n : ℕ) (items : Shape) → bytes_eq name (codes "List") ≡ true → type_named name (record { items = Some items; size = Some n }) ≡ Some (Many n items)
list_named_so name n items e = subst (λ (text : List ℕ). type_named text (record { items = Some items; size = Some n }) ≡ Some (Many n items)) (sym ((bytes_eq-Decides name (codes "List")).0 e)) refl

value_is : (value : Tree) (n : ℕ) (calls : Calls) (env : Env) (left : ℕ) → literal_size value ≡ Some (Some n) → alone (eval value calls env max_turns) left ≡ Gives (Num (pos n)) left
value_is value n calls env left e =
    let f : IsSized value (Some n) = sized_by value (Some n) e in
    let same : n ≡ f.number = ap (λ (o : Option ℕ). elim o [ None ↦ 0 | Some k ↦ k ]) f.is in
    ap (λ (o : Out Value). alone o left) (bound_gives value (pos f.number) calls env max_turns f.bound) ∙ ap (λ j. Gives (Num (pos j)) left) (sym same)

none_found : (t : Shape) → ◌≡◌ {A = Option Shape} None (Some t) → ⊥
none_found t e = cc

mutual
  pub shape_is : (shape : Tree) (t : Shape) (calls : Calls) (env : Env) (left : ℕ) → shape_meant shape ≡ Some t → type_meant shape calls env left ≡ Gives t left
  shape_is (tree.type_of (tree.ident name place) args at) t calls env left e = go (λ is h. items_are name args t calls env left is h) (single_meant (tree.type_of (tree.ident name place) args at)) refl e
    where
      list_of : (bytes_eq name (codes "List") ≡ true → items_of_type args ≡ Some t → type_meant (tree.type_of (tree.ident name place) args at) calls env left ≡ Gives t left) → (b : Bool) → bytes_eq name (codes "List") ≡ b → ◌≡◌ {A = Option Shape} (if b then items_of_type args else None) (Some t) → type_meant (tree.type_of (tree.ident name place) args at) calls env left ≡ Gives t left
      list_of items true is h = items is h
      list_of items false is h = cc

      go : (bytes_eq name (codes "List") ≡ true → items_of_type args ≡ Some t → type_meant (tree.type_of (tree.ident name place) args at) calls env left ≡ Gives t left) → (o : Option Scalar) → single_meant (tree.type_of (tree.ident name place) args at) ≡ o
          → ◌≡◌ {A = Option Shape} (elim o [ None ↦ if bytes_eq name (codes "List") then items_of_type args else None | Some s ↦ Some (Single s) ]) (Some t) → type_meant (tree.type_of (tree.ident name place) args at) calls env left ≡ Gives t left
      go items (Some s) is h = let same : Single s ≡ t = cc in meant_is (tree.type_of (tree.ident name place) args at) s calls env left is ∙ ap (λ u. Gives u left) same
      go items None is h = list_of items (bytes_eq name (codes "List")) refl h
  shape_is other t calls env left e = absurd (none_found t e)

  items_are : (name : List ℕ) (args : Tree) (t : Shape) (calls : Calls) (env : Env) (left : ℕ) → bytes_eq name (codes "List") ≡ true → items_of_type args ≡ Some t → and_then (args_given args calls env left) (λ g m. needed (type_named name g) m) ≡ Gives t left
  items_are name (tree.cons (tree.shape_arg a shape) (tree.cons arg tree.nil)) t calls env left named e =
      let f : AreMeant (size_of_arg arg) (shape_meant shape) t = many_found (size_of_arg arg) (shape_meant shape) t e in
      let one : type_meant shape calls env left ≡ Gives f.items left = shape_is shape f.items calls env left f.items_are in
      let two : args_given (tree.cons arg tree.nil) calls env left ≡ Gives (record { items = None; size = Some f.n }) left = arg_is arg (Some f.n) calls env left f.count in
      ap (λ (o : Out Shape). and_then (and_then o (λ u m. and_then (args_given (tree.cons arg tree.nil) calls env m) (λ given k. Gives (record given { items = Some u }) k))) (λ g m. needed (type_named name g) m)) one
      ∙ ap (λ (o : Out Given). and_then (and_then o (λ given k. Gives (record given { items = Some f.items }) k)) (λ g m. needed (type_named name g) m)) two
      ∙ ap (λ (o : Option Shape). needed o left) (list_named_so name f.n f.items named) ∙ ap (λ u. Gives u left) (sym f.list.is)
  items_are name (tree.cons (tree.value_arg a value) (tree.cons (tree.shape_arg b shape) tree.nil)) t calls env left named e =
      let f : AreMeant (literal_size value) (shape_meant shape) t = many_found (literal_size value) (shape_meant shape) t e in
      let one : type_meant shape calls env left ≡ Gives f.items left = shape_is shape f.items calls env left f.items_are in
      ap (λ (o : Out Value). and_then (and_then o (λ v m. and_then (args_given (tree.cons (tree.shape_arg b shape) tree.nil) calls env m) (λ given k. Gives (record given { size = size_of_value v }) k))) (λ g m. needed (type_named name g) m)) (value_is value f.n calls env left f.count)
      ∙ ap (λ (o : Out Shape). and_then (and_then (and_then o (λ u m. and_then (args_given tree.nil calls env m) (λ given k. Gives (record given { items = Some u }) k))) (λ given k. Gives (record given { size = Some f.n }) k)) (λ g m. needed (type_named name g) m)) one
      ∙ ap (λ (o : Option Shape). needed o left) (list_named_so name f.n f.items named) ∙ ap (λ u. Gives u left) (sym f.list.is)
  items_are name other t calls env left named e = absurd (none_found t e)

-- ---- .. and is allowed

list_typed : (n : ℕ) (items t : Shape) → IsListOf n items t → IsType items → IsType t
list_typed n items t f typed = subst IsType (sym f.is) (f.some, f.few, typed)

mutual
  pub shape_typed : (shape : Tree) (t : Shape) → shape_meant shape ≡ Some t → IsType t
  shape_typed (tree.type_of (tree.ident name place) args at) t e = go (λ h. items_typed args t h) (single_meant (tree.type_of (tree.ident name place) args at)) (bytes_eq name (codes "List")) refl e
    where
      go : (items_of_type args ≡ Some t → IsType t) → (o : Option Scalar) (b : Bool) → single_meant (tree.type_of (tree.ident name place) args at) ≡ o
          → ◌≡◌ {A = Option Shape} (elim o [ None ↦ if b then items_of_type args else None | Some s ↦ Some (Single s) ]) (Some t) → IsType t
      go items (Some s) b is h = let same : Single s ≡ t = cc in subst IsType same (meant_sized (tree.type_of (tree.ident name place) args at) s is)
      go items None true is h = items h
      go items None false is h = cc
  shape_typed other t e = absurd (none_found t e)

  items_typed : (args : Tree) (t : Shape) → items_of_type args ≡ Some t → IsType t
  items_typed (tree.cons (tree.shape_arg a shape) (tree.cons arg tree.nil)) t e =
      let f : AreMeant (size_of_arg arg) (shape_meant shape) t = many_found (size_of_arg arg) (shape_meant shape) t e in
      list_typed f.n f.items t f.list (shape_typed shape f.items f.items_are)
  items_typed (tree.cons (tree.value_arg a value) (tree.cons (tree.shape_arg b shape) tree.nil)) t e =
      let f : AreMeant (literal_size value) (shape_meant shape) t = many_found (literal_size value) (shape_meant shape) t e in
      list_typed f.n f.items t f.list (shape_typed shape f.items f.items_are)
  items_typed other t e = absurd (none_found t e)

-- ---- arguments that are too few or too many

pub one_arg : (x : Tree) → items_of_type (tree.cons x tree.nil) ≡ None
one_arg (tree.shape_arg name shape) = refl
one_arg (tree.value_arg name value) = refl
one_arg other = refl

pub three_args : (x y z rest : Tree) → items_of_type (tree.cons x (tree.cons y (tree.cons z rest))) ≡ None
three_args (tree.shape_arg name shape) y z rest = refl
three_args (tree.value_arg name value) (tree.shape_arg other shape) z rest = refl
three_args (tree.value_arg name value) y z rest = refl
three_args x y z rest = refl

pub few_args : (xs : List Tree) → length xs < 2 → items_of_type (listed xs) ≡ None
few_args [] h = refl
few_args (x ∷ []) h = one_arg x
few_args (x ∷ y ∷ xs) h = absurd (omega arith)

pub two_are : {A : Type 0} (xs : List A) (d e : A) → 2 ≤ length xs → length xs < 3 → d ≡ get_or xs 0 d → e ≡ get_or xs 1 e → xs ≡ d ∷ e ∷ []
two_are [] d e low high p q = absurd (omega arith)
two_are (x ∷ []) d e low high p q = absurd (omega arith)
two_are (x ∷ y ∷ []) d e low high p q = ap (λ u. u ∷ y ∷ []) (sym p) ∙ ap (λ u. d ∷ u ∷ []) (sym q)
two_are (x ∷ y ∷ z ∷ xs) d e low high p q = absurd (omega arith)

pub many_args : (xs : List Tree) → 3 ≤ length xs → items_of_type (listed xs) ≡ None
many_args [] h = absurd (omega arith)
many_args (x ∷ []) h = absurd (omega arith)
many_args (x ∷ y ∷ []) h = absurd (omega arith)
many_args (x ∷ y ∷ z ∷ xs) h = three_args x y z (listed xs)
