-- Variables that all have values: these are of their types, and what is known of them is what the actor holds.
use Rattle.std.proofs.Common.{◌≡◌, ℕ, suc, Bool, true, false, ◌||◌, List, [], ◌∷◌, ◌++◌, map, refl, sym, ap, subst, ◌∙◌, Option, None, Some, append_assoc}
use Rattle.std.specs.Prelude.{if◌then◌else◌, ◌==◌}
use Rattle.std.proofs.lemmas.Bool.Decides.{Decides-eqb}
use Rattle.std.proofs.lemmas.List.{append-nil}
use Rattle.rvc_base.specs.declared.scalar.Scalar.TheVariants as scalar
use Rattle.cal_ast.specs.Places.{begins}
use Rattle.cal_ast.specs.Tree as tree
use Rattle.cal_ast.specs.Tree.{Tree}
use Rattle.cal_model.specs.Value.{Kind, Shape, Single, Many, Value, Num, Truth, Items, Values, Nil, Cons, AreOf, IsOf, IsType, count, kind_of_type, stored, stored_each, zero_of}
use Rattle.cal_model.specs.Outcome.{Out, Gives, Traps, Lacks, Clashes}
use Rattle.cal_model.specs.Actor.{Held}
use Rattle.cal_model.specs.Kinding.{Judged, Fine, Broken, Known, Names, constant, type_judged}
use Rattle.cal_model.specs.Sound.{Each}
use Rattle.cal_model.proofs.KindLaws.{judged-type}
use Rattle.cal_model.proofs.Stored.{conv-in-range, zero-is-of}
use Rattle.cal_check.specs.Constants.{early_kind, early_type, has_kind, have_kind, value_given}
use Rattle.cal_check.specs.Routines.{FunDecl}
use Rattle.cal_check.specs.Variables.{Come, Given, Spot, Valued, VarDecl, come, come_if, come_of, given_to, given_value, held_if, is_none, seen, value_of, value_or, valued, with_come, with_type, with_var}
use Rattle.cal_check.proofs.Lists.{each-append}
use Rattle.cal_check.proofs.SoundHeader.{yet-fine}

-- ---- what is stored

count-stored : (t : Shape) (vs : Values) → count (stored_each t vs) ≡ count vs
count-stored t Nil = refl
count-stored t (Cons v vs) = ap suc (count-stored t vs)

not-true : false ≡ true → ⊥
not-true h = cc

-- both tests hold
pub two-hold : (a b : Bool) → (if a then b else false) ≡ true → (a ≡ true) × (b ≡ true)
two-hold true b h = (refl, h)
two-hold false b h = absurd (not-true h)

mutual
  stored-of : (v : Value) (t : Shape) → IsType t → has_kind (kind_of_type t) v ≡ true → IsOf t (stored t v)
  stored-of (Num z) (Single scalar.Bool) i h = absurd (not-true h)
  stored-of (Num z) (Single (scalar.Int n)) i h = conv-in-range (scalar.Int n) z i
  stored-of (Num z) (Single (scalar.Uint n)) i h = conv-in-range (scalar.Uint n) z i
  stored-of (Num z) (Many n items) i h = absurd (not-true h)
  stored-of (Truth b) (Single scalar.Bool) i h = tt
  stored-of (Truth b) (Single (scalar.Int n)) i h = absurd (not-true h)
  stored-of (Truth b) (Single (scalar.Uint n)) i h = absurd (not-true h)
  stored-of (Truth b) (Many n items) i h = absurd (not-true h)
  stored-of (Items vs) (Single scalar.Bool) i h = absurd (not-true h)
  stored-of (Items vs) (Single (scalar.Int n)) i h = absurd (not-true h)
  stored-of (Items vs) (Single (scalar.Uint n)) i h = absurd (not-true h)
  stored-of (Items vs) (Many n items) i h =
      let two = two-hold (count vs == n) (have_kind (kind_of_type items) vs) h in
      (count-stored items vs ∙ (Decides-eqb (count vs) n).0 two.0, all-stored-of vs items i.2 two.1)

  all-stored-of : (vs : Values) (t : Shape) → IsType t → have_kind (kind_of_type t) vs ≡ true → AreOf t (stored_each t vs)
  all-stored-of Nil t i h = tt
  all-stored-of (Cons v vs) t i h =
      let two = two-hold (has_kind (kind_of_type t) v) (have_kind (kind_of_type t) vs) h in
      (stored-of v t i two.0, all-stored-of vs t i two.1)

some-is : {A : Type 0} (a b : A) → Some a ≡ Some b → a ≡ b
some-is a b h = cc

no-some : {A : Type 0} (a : A) → None ≡ Some a → ⊥
no-some a h = cc

-- a value of the type's kind, stored, if it is one
stored-if : (t : Shape) (v w : Value) → IsType t → (if has_kind (kind_of_type t) v then Some (stored t v) else None) ≡ Some w → IsOf t w
stored-if t v w i h = go (has_kind (kind_of_type t) v) refl h
  where
    go : (b : Bool) → has_kind (kind_of_type t) v ≡ b → (if b then Some (stored t v) else None) ≡ Some w → IsOf t w
    go true e g = subst (λ x. IsOf t x) (some-is (stored t v) w g) (stored-of v t i e)
    go false e g = absurd (no-some w g)

-- ---- starts

given-typed : (o : Out Value) (t : Shape) (at : ℕ) (w : Value) → IsType t → (come_of (value_given o t at)).value ≡ Some w → IsOf t w
given-typed (Gives v left) t at w i h = stored-if t v w i h
given-typed (Traps c) t at w i h = absurd (no-some w h)
given-typed Lacks t at w i h = absurd (no-some w h)
given-typed Clashes t at w i h = absurd (no-some w h)

come-if-typed : (j : Judged Kind) (t : Shape) (e : Tree) (names : Names) (w : Value) → IsType t → (come_if j t e names).value ≡ Some w → IsOf t w
come-if-typed (Fine k) t e names w i h = given-typed (constant e names) t (begins e) w i h
come-if-typed (Broken rule at) t e names w i h = absurd (no-some w h)

come-typed : (start : Tree) (t : Shape) (names : Names) (w : Value) → IsType t → (come t start names).value ≡ Some w → IsOf t w
come-typed (tree.present e) t names w i h = come-if-typed (early_kind (kind_of_type t) e names) t e names w i h
come-typed other t names w i h = subst (λ x. IsOf t x) (some-is (zero_of t) w h) (zero-is-of t i)

param-typed : (g : Option Given) (t : Shape) (start : Option Value) (w : Value) → IsType t → ((v : Value) → start ≡ Some v → IsOf t v) → given_value g t start ≡ Some w → IsOf t w
param-typed None t start w i f h = f w h
param-typed (Some g) t start w i f h = stored-if t g.value w i h

value-typed : (x : VarDecl) (gs : List Given) (t : Shape) (start : Option Value) (w : Value) → IsType t → ((v : Value) → start ≡ Some v → IsOf t v) → value_of x gs t start ≡ Some w → IsOf t w
value-typed x gs t start w i f h = go x.is_param h
  where
    go : (b : Bool) → (if b then given_value (given_to x.name gs) t start else start) ≡ Some w → IsOf t w
    go true g = param-typed (given_to x.name gs) t start w i f g
    go false g = f w g

-- ---- all variables

-- what is known of a variable with its value
abbrev pub known_held : Held → Known
known_held x = record { name = x.name; kind = kind_of_type x.shape; value = Some x.value; changes = x.changes }

-- the last ones in front
abbrev pub known_behind : List Held → List Known → List Known
known_behind [] known = known
known_behind (x ∷ xs) known = known_behind xs (known_held x ∷ known)

abbrev pub IsTyped : Held → Type 0
IsTyped x = IsType x.shape × IsOf x.shape x.value

-- all variables so far have values
pub record AreValued (ns : List (List ℕ)) (vs : Valued) : Type 0 where
  pub useful : vs.useless ≡ false
  pub whole : vs.whole ≡ true
  pub known : vs.known ≡ known_behind vs.held []
  pub named : map (λ x. x.name) vs.held ≡ ns
  pub typed : Each IsTyped vs.held

behind-more : (xs : List Held) (x : Held) (known : List Known) → known_behind (xs ++ x ∷ []) known ≡ known_held x ∷ known_behind xs known
behind-more [] x known = refl
behind-more (y ∷ ys) x known = behind-more ys x (known_held y ∷ known)

map-more : (xs : List Held) (x : Held) → map (λ y. y.name) (xs ++ x ∷ []) ≡ map (λ y. y.name) xs ++ x.name ∷ []
map-more [] x = refl
map-more (y ∷ ys) x = ap (λ ns. y.name ∷ ns) (map-more ys x)

or-false : (a b : Bool) → (a || b) ≡ false → (a ≡ false) × (b ≡ false)
or-false true b h = absurd (cc)
or-false false b h = (refl, h)

-- what comes to no value leaves the rest without use
never-none : (o : Option Value) → o ≡ None → is_none o ≡ false → ⊥
never-none None e h = cc
never-none (Some w) e h = cc

with-value : (x : VarDecl) (gs : List Given) (owner : Spot) (t : Shape) (c : Come) (vs : Valued) (ns : List (List ℕ)) → IsType t → ((v : Value) → c.value ≡ Some v → IsOf t v)
    → AreValued ns vs → (with_come x gs owner t c vs).useless ≡ false → AreValued (ns ++ x.name ∷ []) (with_come x gs owner t c vs)
with-value x gs owner t c vs ns i f a u = go (value_of x gs t c.value) refl
  where
    go : (o : Option Value) → value_of x gs t c.value ≡ o → AreValued (ns ++ x.name ∷ []) (with_come x gs owner t c vs)
    go None e =
        let n : is_none (value_of x gs t c.value) ≡ false = (or-false vs.useless (is_none (value_of x gs t c.value)) u).1 in
        absurd (never-none (value_of x gs t c.value) e n)
    go (Some w) e =
        let new : Held = record { name = x.name; shape = t; value = w; changes = x.changes } in
        let held : (with_come x gs owner t c vs).held ≡ vs.held ++ new ∷ [] = ap (λ o. held_if o x t vs.held) e in
        let known : (with_come x gs owner t c vs).known ≡ known_held new ∷ vs.known =
        ap (λ o. record { name = x.name; kind = kind_of_type t; value = Some (value_or o (kind_of_type t)); changes = x.changes } ∷ vs.known) e in
        record {
          useful = u;
          whole = refl;
          known = known ∙ ap (λ ks. known_held new ∷ ks) a.known ∙ sym (behind-more vs.held new []) ∙ ap (λ hs. known_behind hs []) (sym held);
          named = ap (λ hs. map (λ y. y.name) hs) held ∙ map-more vs.held new ∙ ap (λ ms. ms ++ x.name ∷ []) a.named;
          typed = subst (λ hs. Each IsTyped hs) (sym held) (each-append IsTyped vs.held (new ∷ []) a.typed ((i, value-typed x gs t c.value w i f e), tt));
        }

-- one variable more
with-type : (j : Judged Shape) (x : VarDecl) (gs : List Given) (owner : Spot) (names : Names) (vs : Valued) (ns : List (List ℕ)) → ((t : Shape) → j ≡ Fine t → IsType t)
    → AreValued ns vs → (with_type j x gs owner names vs).useless ≡ false → (with_type j x gs owner names vs).whole ≡ true → AreValued (ns ++ x.name ∷ []) (with_type j x gs owner names vs)
with-type (Fine t) x gs owner names vs ns f a u w = with-value x gs owner t (come t x.start names) vs ns (f t refl) (λ v e. come-typed x.start t names v (f t refl) e) a u
with-type (Broken rule at) x gs owner names vs ns f a u w = absurd (not-true w)

with-var : (x : VarDecl) (gs : List Given) (owner : Spot) (fs : List FunDecl) (vs : Valued) (ns : List (List ℕ)) → AreValued ns vs
    → (with_var x gs owner fs vs).useless ≡ false → (with_var x gs owner fs vs).whole ≡ true → AreValued (ns ++ x.name ∷ []) (with_var x gs owner fs vs)
with-var x gs owner fs vs ns a u w =
    let step : with_var x gs owner fs vs ≡ with_type (early_type x.shape (seen fs vs.known)) x gs owner (seen fs vs.known) vs =
    ap (λ b. if b then with_type (early_type x.shape (seen fs vs.known)) x gs owner (seen fs vs.known) vs else vs) a.whole in
    subst (λ out. AreValued (ns ++ x.name ∷ []) out) (sym step)
    (with-type (early_type x.shape (seen fs vs.known)) x gs owner (seen fs vs.known) vs ns
    (λ t e. judged-type x.shape (seen fs vs.known) t (yet-fine (type_judged x.shape (seen fs vs.known)) x.shape t e))
    a (ap (λ o. o.useless) (sym step) ∙ u) (ap (λ o. o.whole) (sym step) ∙ w))

-- whatever comes behind, nothing before was without use or without a type
pub record WasFine (vs : Valued) : Type 0 where
  pub useful : vs.useless ≡ false
  pub whole : vs.whole ≡ true

before-come : (x : VarDecl) (gs : List Given) (owner : Spot) (t : Shape) (c : Come) (vs : Valued) → vs.whole ≡ true → WasFine (with_come x gs owner t c vs) → WasFine vs
before-come x gs owner t c vs w f = record { useful = (or-false vs.useless (is_none (value_of x gs t c.value)) f.useful).0; whole = w }

before-type : (j : Judged Shape) (x : VarDecl) (gs : List Given) (owner : Spot) (names : Names) (vs : Valued) → vs.whole ≡ true → WasFine (with_type j x gs owner names vs) → WasFine vs
before-type (Fine t) x gs owner names vs w f = before-come x gs owner t (come t x.start names) vs w f
before-type (Broken rule at) x gs owner names vs w f = absurd (not-true f.whole)

before-var : (x : VarDecl) (gs : List Given) (owner : Spot) (fs : List FunDecl) (vs : Valued) → WasFine (with_var x gs owner fs vs) → WasFine vs
before-var x gs owner fs vs f = go vs.whole refl f
  where
    go : (b : Bool) → vs.whole ≡ b → WasFine (if b then with_type (early_type x.shape (seen fs vs.known)) x gs owner (seen fs vs.known) vs else vs) → WasFine vs
    go true e g = before-type (early_type x.shape (seen fs vs.known)) x gs owner (seen fs vs.known) vs e g
    go false e g = g

pub was-fine : (xs : List VarDecl) (gs : List Given) (owner : Spot) (fs : List FunDecl) (vs : Valued) → WasFine (valued xs gs owner fs vs) → WasFine vs
was-fine [] gs owner fs vs f = f
was-fine (x ∷ xs) gs owner fs vs f = before-var x gs owner fs vs (was-fine xs gs owner fs (with_var x gs owner fs vs) f)

pub are-valued : (xs : List VarDecl) (gs : List Given) (owner : Spot) (fs : List FunDecl) (vs : Valued) (ns : List (List ℕ)) → AreValued ns vs
    → (valued xs gs owner fs vs).useless ≡ false → (valued xs gs owner fs vs).whole ≡ true → AreValued (ns ++ map (λ x. x.name) xs) (valued xs gs owner fs vs)
are-valued [] gs owner fs vs ns a u w = subst (λ ms. AreValued ms vs) (sym (append-nil ns)) a
are-valued (x ∷ xs) gs owner fs vs ns a u w =
    let was = was-fine xs gs owner fs (with_var x gs owner fs vs) (record { useful = u; whole = w }) in
    let one = with-var x gs owner fs vs ns a was.useful was.whole in
    subst (λ ms. AreValued ms (valued (x ∷ xs) gs owner fs vs)) (append_assoc ns (x.name ∷ []) (map (λ y. y.name) xs))
    (are-valued xs gs owner fs (with_var x gs owner fs vs) (ns ++ x.name ∷ []) one u w)
