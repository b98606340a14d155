-- What is seen to give values of a sort gives them.
use Rattle.std.proofs.Common.{◌≡◌, ℕ, zero, suc, ◌+◌, ◌-◌, ◌<◌, ℤ, pos, negsuc, ◌+ℤ◌, List, ◌∷◌, length, Bool, true, false, refl, sym, ap, ◌∙◌, subst, Option, None, Some, arith}
use Rattle.std.specs.Prelude.{◌&&◌, ◌||◌, if◌then◌else◌, nat_eq}
use Rattle.std.specs.Str.{bytes_eq}
use Rattle.std.proofs.lemmas.Bool.Decides.{nat_tests}
use Rattle.rvc_base.specs.declared.scalar.Scalar.{Scalar}
use Rattle.rvc_base.specs.declared.trap.Trap.TheVariants.{IndexRange}
use Rattle.rvc_base.specs.Arithmetic as arithmetic
use Rattle.cal_ast.specs.declared.expr.PrefixOp.{PrefixOp}
use Rattle.cal_ast.specs.declared.expr.BinOp.{BinOp}
use Rattle.cal_ast.specs.declared.expr.BinOp.TheVariants as binaries
use Rattle.cal_ast.specs.Tree as tree
use Rattle.cal_ast.specs.Tree.{Tree}
use Rattle.cal_model.specs.Value.{Shape, Single, Many, Value, Num, Truth, Items, Values, Nil, Cons, HasKind, HaveKind, count, joined, kind_of_type, kind_of_scalar, one, stored, value_at}
use Rattle.cal_model.specs.Outcome.{Out, Gives, Traps, Lacks, Clashes, and_then, known, turn}
use Rattle.cal_model.specs.Env.{Var, Env, item_at, look_up, variable, with_local}
use Rattle.cal_model.specs.Expression.{Calls, chosen, computed, each_from, elements, eval, eval_all, indexed, prefixed, span, with_right}
use Rattle.lower_base.specs.declared.sorts.Sort.{Sort}
use Rattle.lower_base.specs.declared.sorts.Sort.TheVariants as sort
use Rattle.lower_base.specs.Callees.{Function, function_for, function_named}
use Rattle.lower_base.specs.Following.{Follows}
use Rattle.lower_base.specs.Generators.{Counted, counted_by, makes_none}
use Rattle.lower_base.specs.Held.{Holds, HoldsName}
use Rattle.lower_base.specs.Names.{Name, local, named}
use Rattle.lower_base.specs.Parted.{number_of}
use Rattle.lower_base.specs.Truths.{all_give, binary_gives, call_gives, gives_at, is_any, is_of_sort, is_truth_binary, name_gives, prefix_gives, shape_gives, under_gens, under_made, with_none, with_one}
use Rattle.lower_base.proofs.Finding.{is_found}
use Rattle.lower_base.proofs.Generated.{IsGenerator, elements_are, generator, none_made}
use Rattle.lower_base.proofs.MeantIs.{meant_sized}
use Rattle.lower_base.proofs.Runs.{follows_more, follows_then}
use Rattle.lower_base.proofs.Singles.{AreSingles, IsSingleValue, KindsIn, OnlySingles, and_single, kind_single, or_single, prefix_single, right_single, single_then, whole_single}
use Rattle.lower_base.proofs.Storing.{number_stored}
use Rattle.lower_base.proofs.Truthful.{IsTruth, OnlyTruths, after_any, prefix_truth, scalar_truth, with_right_truth}

-- ---- values of a sort

abbrev pub IsOfSort : Sort → Value → Type 0
IsOfSort sort.Any v = IsSingleValue v
IsOfSort sort.Truths v = IsTruth v

-- so is each of these
abbrev pub Each : (Value → Type 0) → Values → Type 0
Each P Nil = Unit {0}
Each P (Cons v vs) = P v × Each P vs

-- so is whatever so many indexes choose
abbrev pub AllAt : Sort → ℕ → Value → Type 0
AllAt s zero v = IsOfSort s v
AllAt s (suc d) (Num z) = ⊥
AllAt s (suc d) (Truth b) = ⊥
AllAt s (suc d) (Items vs) = Each (λ v. AllAt s d v) vs

-- what the outcome gives, if anything
abbrev pub Only : Sort → ℕ → Out Value → Type 0
Only s d o = Follows o (λ v m. AllAt s d v) (λ c. Unit {0})

abbrev OnlyEach : Sort → ℕ → Out Values → Type 0
OnlyEach s d o = Follows o (λ vs m. Each (λ v. AllAt s d v) vs) (λ c. Unit {0})

truth_of : (s : Sort) (b : Bool) → IsOfSort s (Truth b)
truth_of sort.Any b = tt
truth_of sort.Truths b = tt

truth_single : (v : Value) → IsTruth v → IsSingleValue v
truth_single (Num z) h = absurd h
truth_single (Truth b) h = tt
truth_single (Items vs) h = absurd h

scalar_sort : (s : Sort) (t : Scalar) (v : Value) → is_of_sort s t ≡ true → HasKind (kind_of_scalar t) v → IsOfSort s v
scalar_sort sort.Any t v h k = kind_single t v k
scalar_sort sort.Truths t v h k = scalar_truth t v h k

-- ---- tests

both_true : (a b : Bool) → a && b ≡ true → (a ≡ true) × (b ≡ true)
both_true true b h = (refl, h)
both_true false b h = cc

-- no index
none_put : (d : ℕ) (b : Bool) → with_none d b ≡ true → (d ≡ 0) × (b ≡ true)
none_put d b h = go (nat_eq d 0) refl h
  where
    go : (t : Bool) → nat_eq d 0 ≡ t → t && b ≡ true → (d ≡ 0) × (b ≡ true)
    go true e g = (grind (arith, nat_tests, e), g)
    go false e g = cc

-- .. or one, and others
record OnePut (d : ℕ) (item : ℕ → Bool) : Type 0 where
  deeper : ℕ
  is : d ≡ suc deeper
  gives : item deeper ≡ true

one_put : (d : ℕ) (item : ℕ → Bool) → with_one d item ≡ true → OnePut d item
one_put d item h = go (nat_eq d 0) refl h
  where
    go : (t : Bool) → nat_eq d 0 ≡ t → (if t then false else item (d - 1)) ≡ true → OnePut d item
    go true e g = cc
    go false e g = let some : 0 < d = grind (arith, nat_tests, e) in record { deeper = d - 1; is = omega (arith, some); gives = g }

-- ---- types

mutual
  shape_all : (s : Sort) (d : ℕ) (t : Shape) (v : Value) → shape_gives s d t ≡ true → HasKind (kind_of_type t) v → AllAt s d v
  shape_all s d (Single t) v h k =
      let p = none_put d (is_of_sort s t) h in
      subst (λ j. AllAt s j v) (sym p.0) (scalar_sort s t v p.1 k)
  shape_all s d (Many n items) (Num z) h k = absurd k
  shape_all s d (Many n items) (Truth b) h k = absurd k
  shape_all s d (Many n items) (Items vs) h k =
      let p : OnePut d (λ j. shape_gives s j items) = one_put d (λ j. shape_gives s j items) h in
      subst (λ j. AllAt s j (Items vs)) (sym p.is) (shapes_all s p.deeper items vs p.gives k.1)

  shapes_all : (s : Sort) (d : ℕ) (t : Shape) (vs : Values) → shape_gives s d t ≡ true → HaveKind (kind_of_type t) vs → Each (λ v. AllAt s d v) vs
  shapes_all s d t Nil h k = tt
  shapes_all s d t (Cons v vs) h k = (shape_all s d t v h k.0, shapes_all s d t vs h k.1)

-- ---- operators

any_right : (o : BinOp) (v : Value) (right : ℕ → Out Value) (left : ℕ) → IsSingleValue v → ((m : ℕ) → OnlySingles (right m)) → OnlySingles (with_right o v right left)
any_right binaries.And v right left s h = and_single v right left s h
any_right binaries.Or v right left s h = or_single v right left s h
any_right binaries.BitOr v right left s h = right_single binaries.BitOr v right left s h
any_right binaries.BitXor v right left s h = right_single binaries.BitXor v right left s h
any_right binaries.BitAnd v right left s h = right_single binaries.BitAnd v right left s h
any_right binaries.Eq v right left s h = right_single binaries.Eq v right left s h
any_right binaries.Ne v right left s h = right_single binaries.Ne v right left s h
any_right binaries.Lt v right left s h = right_single binaries.Lt v right left s h
any_right binaries.Le v right left s h = right_single binaries.Le v right left s h
any_right binaries.Gt v right left s h = right_single binaries.Gt v right left s h
any_right binaries.Ge v right left s h = right_single binaries.Ge v right left s h
any_right binaries.Shl v right left s h = right_single binaries.Shl v right left s h
any_right binaries.Shr v right left s h = right_single binaries.Shr v right left s h
any_right binaries.Add v right left s h = right_single binaries.Add v right left s h
any_right binaries.Sub v right left s h = right_single binaries.Sub v right left s h
any_right binaries.Mul v right left s h = right_single binaries.Mul v right left s h
any_right binaries.Div v right left s h = right_single binaries.Div v right left s h
any_right binaries.Mod v right left s h = right_single binaries.Mod v right left s h

prefix_sort : (s : Sort) (o : PrefixOp) (single : Bool) (out : Out Value) → prefix_gives s o single ≡ true → (single ≡ true → OnlySingles out) → Only s 0 (and_then out (λ v m. prefixed o v m))
prefix_sort sort.Any o single out h of_one = single_then out (λ v m. prefixed o v m) (of_one h) (λ v m i. prefix_single o v m i)
prefix_sort sort.Truths o single out h of_one = after_any out (λ v m. prefixed o v m) (λ v m. prefix_truth o v m h)

binary_truth : (o : BinOp) (out : Out Value) (right : ℕ → Out Value) → is_truth_binary o ≡ true → OnlyTruths (and_then out (λ v m. with_right o v right m))
binary_truth o out right h = after_any out (λ v m. with_right o v right m) (λ v m. with_right_truth o v right m h)

binary_sort : (s : Sort) (o : BinOp) (left other : Bool) (out : Out Value) (right : ℕ → Out Value) → binary_gives s o left other ≡ true → (left ≡ true → OnlySingles out) → (other ≡ true → (m : ℕ) → OnlySingles (right m))
    → Only s 0 (and_then out (λ v m. with_right o v right m))
binary_sort sort.Truths o left other out right h one two = binary_truth o out right h
binary_sort sort.Any o left other out right h one two = by (is_truth_binary o) refl h
  where
    by : (b : Bool) → is_truth_binary o ≡ b → b || (left && other) ≡ true → OnlySingles (and_then out (λ v m. with_right o v right m))
    by true e f = follows_more (and_then out (λ v m. with_right o v right m)) (λ v m. IsTruth v) (λ c. Unit {0}) (λ v m. IsSingleValue v) (λ c. Unit {0}) (binary_truth o out right e) (λ v m t. truth_single v t) (λ c t. tt)
    by false e f =
        let both = both_true left other f in
        single_then out (λ v m. with_right o v right m) (one both.0) (λ v m i. any_right o v right m i (two both.1))

chosen_sort : (s : Sort) (d : ℕ) (v : Value) (f g : ℕ → Out Value) (left : ℕ) → Only s d (f left) → Only s d (g left) → Only s d (chosen v f g left)
chosen_sort s d (Truth true) f g left h k = h
chosen_sort s d (Truth false) f g left h k = k
chosen_sort s d (Num z) f g left h k = tt
chosen_sort s d (Items vs) f g left h k = tt

number_sort : (s : Sort) (k left : ℕ) → is_any s ≡ true → Only s 0 (computed (arithmetic.whole (pos k)) left)
number_sort sort.Any k left h = whole_single (pos k) left
number_sort sort.Truths k left h = cc

after_each : {A B : Type 0} (o : Out A) (f : A → ℕ → Out B) (G : B → ℕ → Type 0) → ((v : A) (m : ℕ) → Follows (f v m) G (λ c. Unit {0})) → Follows (and_then o f) G (λ c. Unit {0})
after_each (Gives v left) f G h = h v left
after_each (Traps c) f G h = tt
after_each Lacks f G h = tt
after_each Clashes f G h = tt

-- ---- items

one_of_each : (P : Value → Type 0) (vs : Values) (k : ℕ) (u : Value) → Each P vs → value_at vs k ≡ Some u → P u
one_of_each P Nil k u h e = cc
one_of_each P (Cons v vs) zero u h e = let same : v ≡ u = cc in subst P same h.0
one_of_each P (Cons v vs) (suc k) u h e = one_of_each P vs k u h.1 e

item_sort : (s : Sort) (d : ℕ) (vs : Values) (i : ℤ) (left : ℕ) → Each (λ v. AllAt s d v) vs → Only s d (item_at vs i left)
item_sort s d vs (negsuc k) left h = tt
item_sort s d vs (pos k) left h = go (value_at vs k) refl
  where
    go : (o : Option Value) → value_at vs k ≡ o → Only s d (elim o [ None ↦ Traps IndexRange | Some v ↦ Gives v left ])
    go None e = tt
    go (Some u) e = one_of_each (λ v. AllAt s d v) vs k u h e

indexed_sort : (s : Sort) (d : ℕ) (v i : Value) (left : ℕ) → AllAt s (suc d) v → Only s d (indexed v i left)
indexed_sort s d (Num z) i left h = absurd h
indexed_sort s d (Truth b) i left h = absurd h
indexed_sort s d (Items vs) (Num i) left h = item_sort s d vs i left h
indexed_sort s d (Items vs) (Truth b) left h = tt
indexed_sort s d (Items vs) (Items us) left h = tt

joined_each : (P : Value → Type 0) (vs ws : Values) → Each P vs → Each P ws → Each P (joined vs ws)
joined_each P Nil ws h k = k
joined_each P (Cons v vs) ws h k = (h.0, joined_each P vs ws h.1 k)

singles_each : (vs : Values) → Each (λ v. AllAt sort.Any 0 v) vs → AreSingles vs
singles_each Nil h = tt
singles_each (Cons v vs) h = (h.0, singles_each vs h.1)

-- one list after another
range_sort : (s : Sort) (d n : ℕ) (i : ℤ) (f : ℤ → ℕ → Out Values) (left : ℕ) → ((j : ℤ) (m : ℕ) → OnlyEach s d (f j m)) → OnlyEach s d (each_from n i f left)
range_sort s d zero i f left h = tt
range_sort s d (suc n) i f left h =
    follows_then (f i left) (λ vs m. and_then (each_from n (i +ℤ pos 1) f m) (λ ws k. Gives (joined vs ws) k)) (λ vs m. Each (λ v. AllAt s d v) vs) (λ c. Unit {0}) (λ vs m. Each (λ v. AllAt s d v) vs) (λ c. Unit {0})
    (h i left)
    (λ vs m p. follows_then (each_from n (i +ℤ pos 1) f m) (λ ws k. Gives (joined vs ws) k) (λ ws k. Each (λ v. AllAt s d v) ws) (λ c. Unit {0}) (λ ws k. Each (λ v. AllAt s d v) ws) (λ c. Unit {0})
    (range_sort s d n (i +ℤ pos 1) f m h) (λ ws k q. joined_each (λ v. AllAt s d v) vs ws p q) (λ c t. tt))
    (λ c t. tt)

-- ---- names

-- the text means a value of the name's type
pub record Means (env : Env) (text : List ℕ) (x : Name) : Type 0 where
  pub value : Value
  pub is : look_up text env ≡ Some value
  pub of_type : HasKind (kind_of_type x.shape) value

-- so does each of the names
abbrev pub Knows : List Name → Env → Type 0
Knows names env = (text : List ℕ) (x : Name) → named text names ≡ Some x → Means env text x

pub knows : (names : List Name) (tokens : ℕ → List ℤ) (cells : List ℤ) (env : Env) → Holds names tokens cells env → Knows names env
knows names tokens cells env holds text x e = let h : HoldsName tokens cells env text x = holds text x e in record { value = h.value; is = h.meant; of_type = h.of_type }

knows_more : (names : List Name) (env : Env) (text : List ℕ) (t : Scalar) (v : Value) → HasKind (kind_of_scalar t) v → Knows names env → Knows (local text t 0 ∷ names) (with_local (variable text (Single t) false v) env)
knows_more names env text t v kind known_names other y e = by (bytes_eq text other) refl e (known_names other y)
  where
    now : Env
    now = with_local (variable text (Single t) false v) env

    meant : (b : Bool) → bytes_eq text other ≡ b → look_up other now ≡ (if b then Some v else look_up other env)
    meant b f = ap (λ d. if d then Some v else look_up other env) f

    by : (b : Bool) → bytes_eq text other ≡ b → (if b then Some (local text t 0) else named other names) ≡ Some y → (named other names ≡ Some y → Means env other y) → Means now other y
    by true f g more = let same : local text t 0 ≡ y = cc in subst (Means now other) same (record { value = v; is = meant true f; of_type = kind })
    by false f g more = let h = more g in record { value = h.value; is = meant false f ∙ h.is; of_type = h.of_type }

name_sort : (s : Sort) (d : ℕ) (names : List Name) (env : Env) (text : List ℕ) (left : ℕ) (o : Option Name) → named text names ≡ o → name_gives s d (elim o [ None ↦ None | Some x ↦ Some x.shape ]) ≡ true → Knows names env → Only s d (known (look_up text env) left)
name_sort s d names env text left None e h known_names = cc
name_sort s d names env text left (Some x) e h known_names =
    let m : Means env text x = known_names text x e in
    subst (λ (o : Option Value). Only s d (known o left)) (sym m.is) (shape_all s d x.shape m.value h m.of_type)

-- ---- indexes

index_sort : (s : Sort) (d : ℕ) (base : Out Value) (place : ℕ → Out Value) → Only s (suc d) base → Only s d (and_then base (λ v m. and_then (place m) (λ i j. indexed v i j)))
index_sort s d base place h =
    follows_then base (λ v m. and_then (place m) (λ i j. indexed v i j)) (λ v m. AllAt s (suc d) v) (λ c. Unit {0}) (λ v m. AllAt s d v) (λ c. Unit {0})
    h
    (λ v m q. after_each (place m) (λ i j. indexed v i j) (λ u j. AllAt s d u) (λ i j. indexed_sort s d v i j q)) (λ c t. tt)

-- ---- expressions

module _ (calls : Calls) (fs : List Function) where
  call_sort : (s : Sort) (vars : List Var) (text : List ℕ) (n : ℕ) (o : Option Function) (args : Bool) (out : Out Values) → function_for text n fs ≡ o → call_gives s o args ≡ true → KindsIn calls vars fs
      → (args ≡ true → Follows out (λ vs m. AreSingles vs × (count vs ≡ n)) (λ c. Unit {0}))
      → Only s 0 (and_then out (λ vs m. turn m (λ k. calls vars text vs k)))
  call_sort s vars text n None args out e h kinds of_args = cc
  call_sort s vars text n (Some f) args out e h kinds of_args =
      let both = both_true (is_of_sort s f.result) args h in
      let there = is_found text n fs f e in
      follows_then out (λ vs m. turn m (λ k. calls vars text vs k)) (λ vs m. AreSingles vs × (count vs ≡ n)) (λ c. Unit {0}) (λ v m. IsOfSort s v) (λ c. Unit {0}) (of_args both.1)
      (λ vs m p. turned vs m p there.0 there.1 both.0) (λ c t. tt)
    where
      turned : (vs : Values) (m : ℕ) → AreSingles vs × (count vs ≡ n) → function_named text fs ≡ Some f → length f.formals ≡ n → is_of_sort s f.result ≡ true → Only s 0 (turn m (λ k. calls vars text vs k))
      turned vs zero p is size sorted = tt
      turned vs (suc j) p is size sorted =
          follows_more (calls vars text vs j) (λ v m. HasKind (kind_of_scalar f.result) v) (λ c. Unit {0}) (λ v m. IsOfSort s v) (λ c. Unit {0})
          (kinds text f is vs j p.0 (p.1 ∙ sym size)) (λ v m k. scalar_sort s f.result v sorted k) (λ c t. tt)

  -- what sees the variables of generators, and is told of over names that know them
  abbrev Told : Sort → ℕ → (List Name → Bool) → (Env → ℕ → Out Value) → Type 0
  Told s d inside item = (names : List Name) (env : Env) (left : ℕ) → inside names ≡ true → Knows names env → KindsIn calls env.globals fs → Only s d (item env left)

  one_sort : (s : Sort) (d : ℕ) (item : ℕ → Out Value) (left : ℕ) → ((m : ℕ) → Only s d (item m)) → OnlyEach s d (turn left (λ m. and_then (item m) (λ v k. Gives (one v) k)))
  one_sort s d item zero h = tt
  one_sort s d item (suc left) h =
      follows_then (item left) (λ v k. Gives (one v) k) (λ v k. AllAt s d v) (λ c. Unit {0}) (λ vs k. Each (λ v. AllAt s d v) vs) (λ c. Unit {0}) (h left) (λ v k q. (q, tt)) (λ c t. tt)

  counted_sort : (s : Sort) (d : ℕ) (g gens : Tree) (inside : List Name → Bool) (item : Env → ℕ → Out Value) (names : List Name) (env : Env) (left : ℕ) (o : Option Counted) → counted_by g ≡ o
      → ◌≡◌ {A = Bool} (elim o [ None ↦ false | Some x ↦ under_gens (local x.text x.kind 0 ∷ names) gens inside ]) true → Knows names env
      → ((x : Counted) (v : Value) (m : ℕ) → under_gens (local x.text x.kind 0 ∷ names) gens inside ≡ true → Knows (local x.text x.kind 0 ∷ names) (with_local (variable x.text (Single x.kind) false v) env)
      → OnlyEach s d (elements gens item calls (with_local (variable x.text (Single x.kind) false v) env) m))
      → OnlyEach s d (elements (tree.cons g gens) item calls env left)
  counted_sort s d g gens inside item names env left None e i known_names later = cc
  counted_sort s d g gens inside item names env left (Some x) e i known_names later =
      let f : IsGenerator g x = generator g x e in
      subst (λ (o : Out Values). OnlyEach s d o) (sym (elements_are g gens x item calls env left e))
      (range_sort s d (span x.low x.high) x.low (λ j m. elements gens item calls (with_local (variable x.text (Single x.kind) false (stored (Single x.kind) (Num j))) env) m) left
      (λ j m. later x (stored (Single x.kind) (Num j)) m i (knows_more names env x.text x.kind (stored (Single x.kind) (Num j)) (number_stored x.kind j (meant_sized f.shape x.kind f.kind)).0 known_names)))

  elements_sort : (s : Sort) (d : ℕ) (gens : Tree) (inside : List Name → Bool) (item : Env → ℕ → Out Value) → Told s d inside item → (names : List Name) (env : Env) (left : ℕ) → under_gens names gens inside ≡ true → Knows names env → KindsIn calls env.globals fs
      → OnlyEach s d (elements gens item calls env left)
  elements_sort s d tree.nil inside item told names env left h known_names kinds = one_sort s d (item env) left (λ m. told names env m h known_names kinds)
  elements_sort s d (tree.cons g gens) inside item told names env left h known_names kinds =
      counted_sort s d g gens inside item names env left (counted_by g) refl h known_names
      (λ x v m i known_more. elements_sort s d gens inside item told (local x.text x.kind 0 ∷ names) (with_local (variable x.text (Single x.kind) false v) env) m i known_more kinds)
  elements_sort s d other inside item told names env left h known_names kinds = tt

  made_sort : (s : Sort) (d : ℕ) (gens : Tree) (inside : List Name → Bool) (item : Env → ℕ → Out Value) → Told s d inside item → (names : List Name) (env : Env) (left : ℕ) → under_made names gens inside ≡ true → Knows names env → KindsIn calls env.globals fs
      → OnlyEach s d (elements gens item calls env left)
  made_sort s d gens inside item told names env left h known_names kinds = go (makes_none gens) refl h
    where
      go : (b : Bool) → makes_none gens ≡ b → b || under_gens names gens inside ≡ true → OnlyEach s d (elements gens item calls env left)
      go true e i = subst (λ (o : Out Values). OnlyEach s d o) (sym (none_made gens item calls env left e)) tt
      go false e i = elements_sort s d gens inside item told names env left i known_names kinds

  mutual
    pub gives : (s : Sort) (d : ℕ) (e : Tree) (names : List Name) (env : Env) (left : ℕ) → gives_at s d fs names e ≡ true → Knows names env → KindsIn calls env.globals fs → Only s d (eval e calls env left)
    gives s d (tree.number k at) names env left h known_names kinds =
        let p = none_put d (is_any s) h in subst (λ j. Only s j (eval (tree.number k at) calls env left)) (sym p.0) (number_sort s k left p.1)
    gives s d (tree.truth b at) names env left h known_names kinds =
        let p = none_put d true h in subst (λ j. Only s j (eval (tree.truth b at) calls env left)) (sym p.0) (truth_of s b)
    gives s d (tree.variable text at) names env left h known_names kinds = name_sort s d names env text left (named text names) refl h known_names
    gives s d (tree.paren e at) names env left h known_names kinds = gives s d e names env left h known_names kinds
    gives s d (tree.if_expr test first other at) names env left h known_names kinds =
        let both = both_true (gives_at s d fs names first) (gives_at s d fs names other) h in
        after_each (eval test calls env left) (λ v m. chosen v (λ k. eval first calls env k) (λ k. eval other calls env k) m) (λ v m. AllAt s d v)
        (λ v m. chosen_sort s d v (λ k. eval first calls env k) (λ k. eval other calls env k) m (gives s d first names env m both.0 known_names kinds) (gives s d other names env m both.1 known_names kinds))
    gives s d (tree.prefix o e at) names env left h known_names kinds =
        let p = none_put d (prefix_gives s o (gives_at sort.Any 0 fs names e)) h in
        subst (λ j. Only s j (eval (tree.prefix o e at) calls env left)) (sym p.0)
        (prefix_sort s o (gives_at sort.Any 0 fs names e) (eval e calls env left) p.1 (λ g. gives sort.Any 0 e names env left g known_names kinds))
    gives s d (tree.binary o l r at) names env left h known_names kinds =
        let p = none_put d (binary_gives s o (gives_at sort.Any 0 fs names l) (gives_at sort.Any 0 fs names r)) h in
        subst (λ j. Only s j (eval (tree.binary o l r at) calls env left)) (sym p.0)
        (binary_sort s o (gives_at sort.Any 0 fs names l) (gives_at sort.Any 0 fs names r) (eval l calls env left) (λ k. eval r calls env k) p.1
        (λ g. gives sort.Any 0 l names env left g known_names kinds) (λ g m. gives sort.Any 0 r names env m g known_names kinds))
    gives s d (tree.call text args at) names env left h known_names kinds =
        let p = none_put d (call_gives s (function_for text (number_of args) fs) (all_give sort.Any 0 fs names args)) h in
        subst (λ j. Only s j (eval (tree.call text args at) calls env left)) (sym p.0)
        (call_sort s env.globals text (number_of args) (function_for text (number_of args) fs) (all_give sort.Any 0 fs names args) (eval_all args calls env left) refl p.1 kinds
        (λ g. follows_more (eval_all args calls env left) (λ vs m. Each (λ v. AllAt sort.Any 0 v) vs × (count vs ≡ number_of args)) (λ c. Unit {0}) (λ vs m. AreSingles vs × (count vs ≡ number_of args)) (λ c. Unit {0})
        (give sort.Any 0 args names env left g known_names kinds) (λ vs m q. (singles_each vs q.0, q.1)) (λ c t. tt)))
    gives s d (tree.list es at) names env left h known_names kinds =
        let p : OnePut d (λ k. all_give s k fs names es) = one_put d (λ k. all_give s k fs names es) h in
        subst (λ j. Only s j (eval (tree.list es at) calls env left)) (sym p.is)
        (follows_then (eval_all es calls env left) (λ vs m. Gives (Items vs) m) (λ vs m. Each (λ v. AllAt s p.deeper v) vs × (count vs ≡ number_of es)) (λ c. Unit {0}) (λ v m. AllAt s (suc p.deeper) v) (λ c. Unit {0})
        (give s p.deeper es names env left p.gives known_names kinds) (λ vs m q. q.0) (λ c t. tt))
    gives s d (tree.comp item gens at) names env left h known_names kinds =
        let p : OnePut d (λ k. under_made names gens (λ inner. gives_at s k fs inner item)) = one_put d (λ k. under_made names gens (λ inner. gives_at s k fs inner item)) h in
        subst (λ j. Only s j (eval (tree.comp item gens at) calls env left)) (sym p.is)
        (follows_then (elements gens (λ inner k. eval item calls inner k) calls env left) (λ vs m. Gives (Items vs) m) (λ vs m. Each (λ v. AllAt s p.deeper v) vs) (λ c. Unit {0}) (λ v m. AllAt s (suc p.deeper) v) (λ c. Unit {0})
        (made_sort s p.deeper gens (λ inner. gives_at s p.deeper fs inner item) (λ inner k. eval item calls inner k) (λ inner now m g known_more more. gives s p.deeper item inner now m g known_more more) names env left p.gives known_names kinds) (λ vs m q. q) (λ c t. tt))
    gives s d (tree.index base place at) names env left h known_names kinds =
        index_sort s d (eval base calls env left) (λ m. eval place calls env m) (gives s (suc d) base names env left h known_names kinds)
    gives s d other names env left h known_names kinds = cc

    give : (s : Sort) (d : ℕ) (es : Tree) (names : List Name) (env : Env) (left : ℕ) → all_give s d fs names es ≡ true → Knows names env → KindsIn calls env.globals fs
        → Follows (eval_all es calls env left) (λ vs m. Each (λ v. AllAt s d v) vs × (count vs ≡ number_of es)) (λ c. Unit {0})
    give s d tree.nil names env left h known_names kinds = (tt, refl)
    give s d (tree.cons e es) names env left h known_names kinds =
        let both = both_true (gives_at s d fs names e) (all_give s d fs names es) h in
        follows_then (eval e calls env left) (λ v j. and_then (eval_all es calls env j) (λ vs i. Gives (Cons v vs) i)) (λ v j. AllAt s d v) (λ c. Unit {0}) (λ vs i. Each (λ v. AllAt s d v) vs × (count vs ≡ suc (number_of es))) (λ c. Unit {0})
        (gives s d e names env left both.0 known_names kinds)
        (λ v j q. follows_then (eval_all es calls env j) (λ vs i. Gives (Cons v vs) i) (λ vs i. Each (λ u. AllAt s d u) vs × (count vs ≡ number_of es)) (λ c. Unit {0}) (λ vs i. Each (λ u. AllAt s d u) vs × (count vs ≡ suc (number_of es))) (λ c. Unit {0})
        (give s d es names env j both.1 known_names kinds) (λ vs i p. ((q, p.0), ap suc p.1)) (λ c t. tt))
        (λ c t. tt)
    give s d other names env left h known_names kinds = tt
