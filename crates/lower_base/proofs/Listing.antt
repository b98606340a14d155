-- What the name of a list of single values means.
use Rattle.std.proofs.Common.{◌≡◌, ℕ, zero, suc, ◌<◌, ◌≤◌, ℤ, List, [], ◌∷◌, ◌++◌, refl, sym, ap, ◌∙◌, subst, Option, None, Some, arith}
use Rattle.std.specs.Prelude.{slice_get}
use Rattle.rvc_base.specs.declared.scalar.Scalar.{Scalar}
use Rattle.rvc_base.specs.declared.scalar.Scalar.TheVariants as scalar
use Rattle.rvc_base.specs.Arithmetic as arithmetic
use Rattle.cal_ast.specs.Tree as tree
use Rattle.cal_ast.specs.Tree.{Tree}
use Rattle.cal_model.specs.Value.{Kind, Shape, Single, Many, Value, Num, Truth, Items, Values, Nil, Cons, count, value_at, HasKind, HaveKind, kind_of_type, kind_of_scalar}
use Rattle.cal_model.specs.Outcome.{Out, Gives, known}
use Rattle.cal_model.specs.Env.{Env}
use Rattle.cal_model.specs.Expression.{Calls, eval}
use Rattle.lower_base.specs.declared.names.ItemList.{ItemList}
use Rattle.lower_base.specs.Flat.{flat, flat_all}
use Rattle.lower_base.specs.Names.{Name, IsSingle, named}
use Rattle.lower_base.specs.Listed.{list_named, items_in}
use Rattle.lower_base.specs.Held.{StandAt, HoldsName, Holds}

-- the tree is a name of such a list
pub record IsListName (names : List Name) (e : Tree) (l : ItemList) : Type 0 where
  pub text : List ℕ
  pub place : ℕ
  pub x : Name
  pub tree_is : e ≡ tree.variable text place
  pub is : named text names ≡ Some x
  pub shape : x.shape ≡ Many l.size (Single l.kind)
  pub seat : x.seat ≡ l.seat

shape_found : (x : Name) (l : ItemList) (s : Shape) → x.shape ≡ s → items_in x.seat s ≡ Some l → (x.shape ≡ Many l.size (Single l.kind)) × (x.seat ≡ l.seat)
shape_found x l (Single t) e g = cc
shape_found x l (Many size (Single t)) e g =
    let made : ItemList = record { seat = x.seat; size = size; kind = t } in
    let same : made ≡ l = cc in
    (e ∙ ap (λ (m : ItemList). Many m.size (Single m.kind)) same, ap (λ (m : ItemList). m.seat) same)
shape_found x l (Many size (Many n t)) e g = cc

name_found : (names : List Name) (text : List ℕ) (at : ℕ) (l : ItemList) (o : Option Name) → named text names ≡ o → elim o [ None ↦ None | Some x ↦ items_in x.seat x.shape ] ≡ Some l → IsListName names (tree.variable text at) l
name_found names text at l None e g = cc
name_found names text at l (Some x) e g =
    let parts = shape_found x l x.shape refl g in
    record { text = text; place = at; x = x; tree_is = refl; is = e; shape = parts.0; seat = parts.1 }

pub found : (names : List Name) (e : Tree) (l : ItemList) → list_named names e ≡ Some l → IsListName names e l
found names (tree.variable text at) l g = name_found names text at l (named text names) refl g
found names e l g = cc

-- ---- values

pub single_flat : (t : Shape) (v : Value) → IsSingle t → HasKind (kind_of_type t) v → (z : ℤ) × (flat v ≡ z ∷ [])
single_flat (Single scalar.Bool) (Num z) s h = absurd h
single_flat (Single scalar.Bool) (Truth b) s h = (arithmetic.truth b, refl)
single_flat (Single scalar.Bool) (Items vs) s h = absurd h
single_flat (Single (scalar.Int n)) (Num z) s h = (z, refl)
single_flat (Single (scalar.Int n)) (Truth b) s h = absurd h
single_flat (Single (scalar.Int n)) (Items vs) s h = absurd h
single_flat (Single (scalar.Uint n)) (Num z) s h = (z, refl)
single_flat (Single (scalar.Uint n)) (Truth b) s h = absurd h
single_flat (Single (scalar.Uint n)) (Items vs) s h = absurd h
single_flat (Many n items) v s h = absurd s

pub record IsList (tokens : ℕ → List ℤ) (cells : List ℤ) (o : Out Value) (left : ℕ) (l : ItemList) : Type 0 where
  pub values : Values
  pub gives : o ≡ Gives (Items values) left
  pub size : count values ≡ l.size
  pub kinds : HaveKind (kind_of_scalar l.kind) values
  pub stands : StandAt l.seat tokens cells (flat_all values)

list_value : (tokens : ℕ → List ℤ) (cells : List ℤ) (o : Out Value) (left : ℕ) (l : ItemList) (v : Value) → o ≡ Gives v left → HasKind (kind_of_type (Many l.size (Single l.kind))) v → StandAt l.seat tokens cells (flat v) → IsList tokens cells o left l
list_value tokens cells o left l (Num z) e h s = absurd h
list_value tokens cells o left l (Truth b) e h s = absurd h
list_value tokens cells o left l (Items vs) e h s = record { values = vs; gives = e; size = h.0; kinds = h.1; stands = s }

pub named_list : (names : List Name) (tokens : ℕ → List ℤ) (cells : List ℤ) (env : Env) (e : Tree) (l : ItemList) (calls : Calls) (left : ℕ) → list_named names e ≡ Some l → Holds names tokens cells env → IsList tokens cells (eval e calls env left) left l
named_list names tokens cells env e l calls left g holds =
    let f : IsListName names e l = found names e l g in
    let h : HoldsName tokens cells env f.text f.x = holds f.text f.x f.is in
    list_value tokens cells (eval e calls env left) left l h.value
    (ap (λ t. eval t calls env left) f.tree_is ∙ ap (λ (o : Option Value). known o left) h.meant)
    (subst (λ s. HasKind (kind_of_type s) h.value) f.shape h.of_type)
    (subst (λ s. StandAt s tokens cells (flat h.value)) f.seat h.stands)

-- an item has the kind of the items
pub item_kind : (k : Kind) (vs : Values) (i : ℕ) (u : Value) → HaveKind k vs → value_at vs i ≡ Some u → HasKind k u
item_kind k Nil i u h e = cc
item_kind k (Cons v vs) zero u h e = let same : v ≡ u = cc in subst (HasKind k) same h.0
item_kind k (Cons v vs) (suc i) u h e = item_kind k vs i u h.1 e

pub first_of_two : (zs ys : List ℤ) (y : ℤ) (i : ℕ) → zs ≡ y ∷ [] → (slice_get (zs ++ ys) 0 ≡ Some y) × (slice_get (zs ++ ys) (suc i) ≡ slice_get ys i)
first_of_two zs ys y i e = (ap (λ xs. slice_get (xs ++ ys) 0) e, ap (λ xs. slice_get (xs ++ ys) (suc i)) e)

-- the number of an item is at its place among the numbers of the list
pub item_flat : (t : Scalar) (vs : Values) (i : ℕ) (u : Value) → HaveKind (kind_of_scalar t) vs → value_at vs i ≡ Some u → (y : ℤ) × (flat u ≡ y ∷ []) × (slice_get (flat_all vs) i ≡ Some y)
item_flat t Nil i u h e = cc
item_flat t (Cons v vs) zero u h e =
    let same : v ≡ u = cc in
    let one = single_flat (Single t) v tt h.0 in
    (one.0, ap flat (sym same) ∙ one.1, (first_of_two (flat v) (flat_all vs) one.0 0 one.1).0)
item_flat t (Cons v vs) (suc i) u h e =
    let one = single_flat (Single t) v tt h.0 in
    let rest = item_flat t vs i u h.1 e in
    (rest.0, rest.1, (first_of_two (flat v) (flat_all vs) one.0 i one.1).1 ∙ rest.2)

pub item_within : (vs : Values) (i : ℕ) (u : Value) → value_at vs i ≡ Some u → i < count vs
item_within Nil i u e = cc
item_within (Cons v vs) zero u e = omega arith
item_within (Cons v vs) (suc i) u e = let h = item_within vs i u e in omega (arith, h)

pub item_past : (vs : Values) (i : ℕ) → value_at vs i ≡ None → count vs ≤ i
item_past Nil i e = omega arith
item_past (Cons v vs) zero e = cc
item_past (Cons v vs) (suc i) e = let h = item_past vs i e in omega (arith, h)
