-- Values of a kind: what is stored, what operations on them give, and lists of them.
use Rattle.std.proofs.Common.{◌≡◌, ℕ, suc, ◌+◌, ◌-◌, ◌*◌, ◌^◌, ◌≤◌, ℤ, Bool, true, false, not, ◌&&◌, List, [], ◌∷◌, length, refl, sym, ap, subst, ◌∙◌, arith, pow_mono}
use Rattle.std.specs.Prelude.{if◌then◌else◌, nat_le, ◌==◌}
use Rattle.std.proofs.lemmas.Int.{ints}
use Rattle.rvc_base.specs.declared.scalar.Scalar.{Scalar}
use Rattle.rvc_base.specs.declared.scalar.Scalar.TheVariants as scalar
use Rattle.rvc_base.specs.Storing.{IsSize}
use Rattle.rvc_base.specs.declared.refusal.Rule.{Rule}
use Rattle.rvc_base.specs.Width.{max_size}
use Rattle.cal_model.specs.Value.{Kind, NumKind, BoolKind, ListKind, Shape, Single, Many, Value, Num, Truth, Items, Values, Nil, Cons, count, joined, kind_of_type, kind_of_scalar, scalars_of_kind, max_list_scalars, stored, zero_of, HasKind, HaveKind, IsOf, AreOf, IsType}
use Rattle.cal_model.specs.Kinding.{Judged, Fine, Broken, and_so, is_same_kind, is_like, one_kind, all_like, all_same, list_of_kind, list_kind}
use Rattle.cal_model.specs.Keeping.{AreOfKinds}
use Rattle.cal_model.proofs.Stored.{stored-is-of, zero-is-of}

-- ---- judgements

pub not-fine : {A : Type 0} (rule : Rule) (at : ℕ) (a : A) → Broken rule at ≡ Fine a → ⊥
not-fine rule at a h = cc

pub fine-is : {A : Type 0} (a b : A) → Fine a ≡ Fine b → a ≡ b
fine-is a b h = cc

-- a judgement of two parts is fine only if both are
pub split : {A B : Type 0} (o : Judged A) (f : A → Judged B) (b : B) → and_so o f ≡ Fine b → (a : A) × (o ≡ Fine a) × (f a ≡ Fine b)
split (Fine a) f b h = (a, refl, h)
split (Broken rule at) f b h = absurd (not-fine rule at b h)

-- .. and one that depends on a test only if the test holds and what follows is fine
pub tested : {A : Type 0} (b : Bool) (o : Judged A) (rule : Rule) (at : ℕ) (a : A) → (if b then o else Broken rule at) ≡ Fine a → (b ≡ true) × (o ≡ Fine a)
tested true o rule at a h = (refl, h)
tested false o rule at a h = absurd (not-fine rule at a h)

pub both : (a b : Bool) → (a && b) ≡ true → (a ≡ true) × (b ≡ true)
both true true h = (refl, refl)
both true false h = absurd (grind arith)
both false b h = absurd (grind arith)

-- ---- kinds

true-or-false : (b : Bool) → b ≡ false → b ≡ true → ⊥
true-or-false b f t = let e : true ≡ false = sym t ∙ f in grind arith

pub same-kind : (k l : Kind) → is_same_kind k l ≡ true → k ≡ l
same-kind NumKind NumKind h = refl
same-kind BoolKind BoolKind h = refl
same-kind (ListKind n k) (ListKind m l) h =
    let parts = both (n == m) (is_same_kind k l) h in
    let size : n ≡ m = grind arith in
    let items : k ≡ l = same-kind k l parts.1 in
    ap (λ j. ListKind j k) size ∙ ap (ListKind m) items
same-kind NumKind BoolKind h = absurd (grind arith)
same-kind NumKind (ListKind m l) h = absurd (grind arith)
same-kind BoolKind NumKind h = absurd (grind arith)
same-kind BoolKind (ListKind m l) h = absurd (grind arith)
same-kind (ListKind n k) NumKind h = absurd (grind arith)
same-kind (ListKind n k) BoolKind h = absurd (grind arith)

one-of : (b c : Bool) (k j : Kind) (at : ℕ) (r s : Rule) → (if b then Fine k else if c then Broken r at else Broken s at) ≡ Fine j → (b ≡ true) × (k ≡ j)
one-of true c k j at r s h = (refl, fine-is k j h)
one-of false true k j at r s h = absurd (not-fine r at j h)
one-of false false k j at r s h = absurd (not-fine s at j h)

pub one-kind : (k l j : Kind) (at : ℕ) → one_kind k l at ≡ Fine j → (k ≡ l) × (k ≡ j)
one-kind k l j at h = let i = one-of (is_same_kind k l) (is_like k l) k j at _ _ h in (same-kind k l i.0, i.1)

pub list-of-kind : (n : ℕ) (k j : Kind) (at : ℕ) → list_of_kind n k at ≡ Fine j → ListKind n k ≡ j
list-of-kind n k j at h = fine-is (ListKind n k) j (tested (nat_le n max_list_scalars && nat_le (n * scalars_of_kind k) max_list_scalars) (Fine (ListKind n k)) _ at j h).1

-- ---- storing

power-is-num : (n : ℕ) → n ≤ max_size → 2 ^ n ≤ 2 ^ max_size
power-is-num n h = pow_mono h

pub single-is-num : (t : Scalar) (z : ℤ) → IsSize t → IsOf (Single t) (Num z) → HasKind (kind_of_scalar t) (Num z)
single-is-num scalar.Bool z h k = absurd k
single-is-num (scalar.Int n) z h k = let e : 2 ^ (n - 1) ≤ 2 ^ max_size = power-is-num (n - 1) (omega arith) in omega (arith, ints)
single-is-num (scalar.Uint n) z h k = let e : 2 ^ n ≤ 2 ^ max_size = power-is-num n (omega arith) in omega (arith, ints)

mutual
  pub of-type : (v : Value) (t : Shape) → IsType t → IsOf t v → HasKind (kind_of_type t) v
  of-type (Num z) (Single t) h k = single-is-num t z h k
  of-type (Num z) (Many n items) h k = absurd k
  of-type (Truth b) (Single scalar.Bool) h k = tt
  of-type (Truth b) (Single (scalar.Int n)) h k = absurd k
  of-type (Truth b) (Single (scalar.Uint n)) h k = absurd k
  of-type (Truth b) (Many n items) h k = absurd k
  of-type (Items vs) (Single t) h k = absurd k
  of-type (Items vs) (Many n items) h k = (k.0, all-of-type vs items h.2 k.1)

  all-of-type : (vs : Values) (t : Shape) → IsType t → AreOf t vs → HaveKind (kind_of_type t) vs
  all-of-type Nil t h k = tt
  all-of-type (Cons v vs) t h k = (of-type v t h k.0, all-of-type vs t h k.1)

pub stored-has-kind : (t : Shape) (v : Value) → IsType t → HasKind (kind_of_type t) v → HasKind (kind_of_type t) (stored t v)
stored-has-kind t v h k = of-type (stored t v) t h (stored-is-of v t h k)

pub zero-has-kind : (t : Shape) → IsType t → HasKind (kind_of_type t) (zero_of t)
zero-has-kind t h = of-type (zero_of t) t h (zero-is-of t h)

-- ---- lists

pub count-joined : (vs ws : Values) → count (joined vs ws) ≡ count vs + count ws
count-joined Nil ws = omega arith
count-joined (Cons v vs) ws = let e = count-joined vs ws in omega arith

pub have-joined : (k : Kind) (vs ws : Values) → HaveKind k vs → HaveKind k ws → HaveKind k (joined vs ws)
have-joined k Nil ws h i = i
have-joined k (Cons v vs) ws h i = (h.0, have-joined k vs ws h.1 i)

all-one : (k : Kind) (ks : List Kind) (vs : Values) → all_same k ks ≡ true → AreOfKinds ks vs → (count vs ≡ length ks) × HaveKind k vs
all-one k [] Nil e h = (refl, tt)
all-one k [] (Cons v vs) e h = absurd h
all-one k (l ∷ ls) Nil e h = absurd h
all-one k (l ∷ ls) (Cons v vs) e h =
    let parts = both (is_same_kind k l) (all_same k ls) e in
    let rest = all-one k ls vs parts.1 h.1 in
    (ap suc rest.0, (subst (λ j. HasKind j v) (sym (same-kind k l parts.0)) h.0, rest.1))

list-parts : (a b : Bool) (o : Judged Kind) (at : ℕ) (r s : Rule) (j : Kind) → (if not a then Broken r at else if not b then Broken s at else o) ≡ Fine j → (b ≡ true) × (o ≡ Fine j)
list-parts true true o at r s j h = (refl, h)
list-parts true false o at r s j h = absurd (not-fine s at j h)
list-parts false b o at r s j h = absurd (not-fine r at j h)

pub list-has-kind : (ks : List Kind) (j : Kind) (at : ℕ) (vs : Values) → list_kind ks at ≡ Fine j → AreOfKinds ks vs → HasKind j (Items vs)
list-has-kind [] j at vs e h = absurd (not-fine _ at j e)
list-has-kind (k ∷ ks) j at Nil e h = absurd h
list-has-kind (k ∷ ks) j at (Cons v vs) e h =
    let parts = list-parts (all_like k ks) (all_same k ks) (list_of_kind (suc (length ks)) k at) at _ _ j e in
    let rest = all-one k ks vs parts.0 h.1 in
    subst (λ l. HasKind l (Items (Cons v vs))) (list-of-kind (suc (length ks)) k j at parts.1) (ap suc rest.0, (h.0, rest.1))
