-- Execution keeps each variable in its type: what is assigned is stored in the type of what it is assigned to.
use Rattle.std.proofs.Common.{◌≡◌, ℕ, zero, suc, ◌+◌, ◌-◌, ◌||◌, ℤ, pos, negsuc, Bool, true, false, List, [], ◌∷◌, ◌++◌, map, length, drop, refl, sym, ap, subst, ◌∙◌, arith, Option, None, Some}
use Rattle.std.specs.Prelude.{if◌then◌else◌}
use Rattle.std.specs.Str.{bytes_eq}
use Rattle.std.proofs.lemmas.Bool.{true≢false}
use Rattle.rvc_base.specs.declared.scalar.Scalar.{Scalar}
use Rattle.rvc_base.specs.declared.scalar.Scalar.TheVariants as scalar
use Rattle.rvc_base.specs.declared.trap.Trap.TheVariants.{IndexRange}
use Rattle.cal_model.specs.Value.{Kind, NumKind, BoolKind, ListKind, Shape, Single, Many, Value, Num, Truth, Items, Values, Nil, Cons, count, value_at, with_value, kind_of_type, kind_of_scalar, HasKind, IsOf, AreOf, IsType}
use Rattle.cal_model.specs.Outcome.{Out, Gives, Traps, Lacks, Clashes, and_then, turn}
use Rattle.cal_model.specs.Env.{Var, Env, find, with_local, back_to, item_at, with_item, put, assigned_to, assigned, is_among, assign}
use Rattle.cal_model.specs.Expression.{chosen, range_of}
use Rattle.cal_model.specs.Actor.{Held, Fun}
use Rattle.cal_model.specs.Call.{calls_of}
use Rattle.cal_model.specs.ActorState.{IsVarOf, AreVarsOf}
use Rattle.cal_model.specs.Kinding.{Fine, kind, Known, Names, known_as, with_known}
use Rattle.cal_model.specs.Sound.{Each, FunsNeverReturn, known_of, with_locals, kind_inside}
use Rattle.cal_model.specs.Keeping.{GivesOrTraps, AreOfKinds, StandsFor, StandFor, HasEach, IsEnvOf, HasAllOf, outside, StartsAreOf, IsOfItsKinds}
use Rattle.cal_model.proofs.Stored.{stored-is-of}
use Rattle.cal_model.proofs.KindValues.{of-type}
use Rattle.cal_model.proofs.Agreement.{any_name}
use Rattle.cal_model.proofs.KindOperators.{Comes}
use Rattle.cal_model.proofs.KindNames.{Fits}
use Rattle.cal_model.proofs.KindLaws.{env-fits-all}

-- ---- outcomes

pub comes-all : {A : Type 0} (P : A → Type 0) (left : ℕ) (o : Out A) → Comes ⊥ P left o → GivesOrTraps P o
comes-all P left (Gives a m) h = h.0
comes-all P left (Traps c) h = tt
comes-all P left Lacks h = h
comes-all P left Clashes h = h

pub then-if : {A B : Type 0} (P : A → Type 0) (Q : B → Type 0) (o : Out A) (f : A → ℕ → Out B) → GivesOrTraps P o → ((a : A) (m : ℕ) → P a → GivesOrTraps Q (f a m)) → GivesOrTraps Q (and_then o f)
then-if P Q (Gives a m) f h i = i a m h
then-if P Q (Traps c) f h i = tt
then-if P Q Lacks f h i = h
then-if P Q Clashes f h i = h

pub gives-as : {A : Type 0} (P Q : A → Type 0) (o : Out A) → ((a : A) → P a → Q a) → GivesOrTraps P o → GivesOrTraps Q o
gives-as P Q (Gives a m) f h = f a h
gives-as P Q (Traps c) f h = tt
gives-as P Q Lacks f h = h
gives-as P Q Clashes f h = h

pub turn-if : {A : Type 0} (P : A → Type 0) (left : ℕ) (f : ℕ → Out A) → ((k : ℕ) → GivesOrTraps P (f k)) → GivesOrTraps P (turn left f)
turn-if P zero f h = tt
turn-if P (suc left) f h = h left

pub chosen-if : {A : Type 0} (P : A → Type 0) (v : Value) (f g : ℕ → Out A) (left : ℕ) → HasKind BoolKind v → ((k : ℕ) → GivesOrTraps P (f k)) → ((k : ℕ) → GivesOrTraps P (g k)) → GivesOrTraps P (chosen v f g left)
chosen-if P (Truth true) f g left b h i = h left
chosen-if P (Truth false) f g left b h i = i left
chosen-if P (Num z) f g left b h i = absurd b
chosen-if P (Items vs) f g left b h i = absurd b

pub range-if : {A : Type 0} (P : A → Type 0) (a b : Value) (f : ℤ → ℤ → Out A) → HasKind NumKind a → HasKind NumKind b → ((low high : ℤ) → GivesOrTraps P (f low high)) → GivesOrTraps P (range_of a b f)
range-if P (Num a) (Num b) f m n h = h a b
range-if P (Num a) (Truth b) f m n h = absurd n
range-if P (Num a) (Items vs) f m n h = absurd n
range-if P (Truth a) w f m n h = absurd m
range-if P (Items vs) w f m n h = absurd m

-- ---- assignment inside a value

item-of : (vs : Values) (t : Shape) (k : ℕ) (v : Value) → AreOf t vs → value_at vs k ≡ Some v → IsOf t v
item-of Nil t k v h e = let no : None ≡ Some v = e in absurd (grind arith)
item-of (Cons w vs) t zero v h e = let same : w ≡ v = cc in subst (λ x. IsOf t x) same h.0
item-of (Cons w vs) t (suc k) v h e = item-of vs t k v h.1 e

item-if : (vs : Values) (t : Shape) (i : ℤ) (left : ℕ) → AreOf t vs → GivesOrTraps (IsOf t) (item_at vs i left)
item-if vs t (pos k) left h = go (value_at vs k) refl
  where
    go : (o : Option Value) → value_at vs k ≡ o → GivesOrTraps (IsOf t) (elim o [ None ↦ Traps IndexRange | Some v ↦ Gives v left ])
    go None e = tt
    go (Some v) e = item-of vs t k v h e
item-if vs t (negsuc k) left h = tt

replaced-of : (vs : Values) (t : Shape) (k : ℕ) (w : Value) → AreOf t vs → IsOf t w → AreOf t (with_value vs k w)
replaced-of Nil t k w h i = tt
replaced-of (Cons v vs) t zero w h i = (i, h.1)
replaced-of (Cons v vs) t (suc k) w h i = (h.0, replaced-of vs t k w h.1 i)

count-replaced : (vs : Values) (k : ℕ) (w : Value) → count (with_value vs k w) ≡ count vs
count-replaced Nil k w = refl
count-replaced (Cons v vs) zero w = refl
count-replaced (Cons v vs) (suc k) w = ap suc (count-replaced vs k w)

with-item-of : (vs : Values) (t : Shape) (n : ℕ) (i : ℤ) (w : Value) → IsOf (Many n t) (Items vs) → IsOf t w → IsOf (Many n t) (Items (with_item vs i w))
with-item-of vs t n (pos k) w h j = (count-replaced vs k w ∙ h.0, replaced-of vs t k w h.1 j)
with-item-of vs t n (negsuc k) w h j = h

no-shape : (t : Shape) → None ≡ Some t → ⊥
no-shape t e = grind arith

kind-is : (k l : Kind) → Some k ≡ Some l → k ≡ l
kind-is k l e = cc

no-kind : (k : Kind) → None ≡ Some k → ⊥
no-kind k e = grind arith

single-inside : (s : Scalar) (l : Kind) (ks : List Kind) (k : Kind) → kind_inside (kind_of_scalar s) (l ∷ ks) ≡ Some k → ⊥
single-inside scalar.Bool l ks k e = no-kind k e
single-inside (scalar.Int n) l ks k e = no-kind k e
single-inside (scalar.Uint n) l ks k e = no-kind k e

put-if : (t : Shape) (old : Value) (places : Values) (v : Value) (ks : List Kind) (k : Kind) (left : ℕ) → IsType t → IsOf t old → kind_inside (kind_of_type t) ks ≡ Some k
    → AreOfKinds ks places → HasKind k v → GivesOrTraps (IsOf t) (put t old places v left)
put-if t old Nil v [] k left i h e a b = stored-is-of v t i (subst (λ l. HasKind l v) (sym (kind-is (kind_of_type t) k e)) b)
put-if t old Nil v (l ∷ ks) k left i h e a b = absurd a
put-if t old (Cons p places) v [] k left i h e a b = absurd a
put-if (Single s) old (Cons p places) v (l ∷ ks) k left i h e a b = absurd (single-inside s l ks k e)
put-if (Many n items) (Num z) (Cons p places) v (l ∷ ks) k left i h e a b = absurd h
put-if (Many n items) (Truth c) (Cons p places) v (l ∷ ks) k left i h e a b = absurd h
put-if (Many n items) (Items vs) (Cons (Num z) places) v (NumKind ∷ ks) k left i h e a b =
    then-if (IsOf items) (IsOf (Many n items)) (item_at vs z left) _ (item-if vs items z left h.1) (λ old m is.
    then-if (IsOf items) (IsOf (Many n items)) (put items old places v m) _ (put-if items old places v ks k m i.2 is e a.1 b) (λ w j good.
    with-item-of vs items n z w h good))
put-if (Many n items) (Items vs) (Cons (Truth c) places) v (NumKind ∷ ks) k left i h e a b = absurd a.0
put-if (Many n items) (Items vs) (Cons (Items ws) places) v (NumKind ∷ ks) k left i h e a b = absurd a.0
put-if (Many n items) (Items vs) (Cons p places) v (BoolKind ∷ ks) k left i h e a b = absurd (no-kind k e)
put-if (Many n items) (Items vs) (Cons p places) v (ListKind m l ∷ ks) k left i h e a b = absurd (no-kind k e)

-- ---- variables

-- A variable stands for a name; if it is assigned, it keeps a type of the name's kind; and a name that changes is
-- assigned.
pub record Stays (n : Known) (x : Var) : Type 0 where
  pub name : x.name ≡ n.name
  pub stands : StandsFor n x.value
  pub kept : (t : Shape) → x.kept ≡ Some t → IsType t × (kind_of_type t ≡ n.kind) × IsOf t x.value × (n.value ≡ None)
  pub may : n.changes ≡ true → (t : Shape) × (x.kept ≡ Some t)

abbrev pub AllStay : List Known → List Var → Type 0
AllStay [] [] = Unit {0}
AllStay (n ∷ ns) (x ∷ xs) = Stays n x × AllStay ns xs
AllStay ns xs = ⊥

-- a place of an assignment, and what it is given
pub record IsGiven (kind : Kind) (places : Values) (v : Value) : Type 0 where
  pub kinds : List Kind
  pub item : Kind
  pub inside : kind_inside kind kinds ≡ Some item
  pub are : AreOfKinds kinds places
  pub has : HasKind item v

value-none : (w : Value) (o : Option Value) → o ≡ None → o ≡ Some w → ⊥
value-none w o e f = let no : None ≡ Some w = sym e ∙ f in grind arith

same-shape-of : (t s : Shape) → Some t ≡ Some s → t ≡ s
same-shape-of t s e = cc

assigned-to-stays : (n : Known) (x : Var) (places : Values) (v : Value) (left : ℕ) → n.changes ≡ true → Stays n x → IsGiven n.kind places v → GivesOrTraps (Stays n) (assigned_to x places v left)
assigned-to-stays n x places v left c s g = go x.kept refl
  where
    after : (t : Shape) → x.kept ≡ Some t → (w : Value) → IsOf t w → Stays n (record x { value = w })
    after t e w h =
        let k = s.kept t e in record {
          name = s.name;
          may = s.may;
          stands = record { kind = subst (λ l. HasKind l w) k.1 (of-type w t k.0 h); constant = λ c f. absurd (value-none c n.value k.3 f) };
          kept = λ u f. let same : t ≡ u = same-shape-of t u (sym e ∙ f) in subst (λ q. IsType q × (kind_of_type q ≡ n.kind) × IsOf q w × (n.value ≡ None)) same (k.0, k.1, h, k.3);
        }

    go : (o : Option Shape) → x.kept ≡ o → GivesOrTraps (Stays n) (elim o [ None ↦ Clashes | Some t ↦ and_then (put t x.value places v left) (λ w k. Gives (record x { value = w }) k) ])
    go None e = let t = s.may c in let no : None ≡ Some t.0 = sym e ∙ t.1 in absurd (no-shape t.0 no)
    go (Some t) e =
        let k = s.kept t e in
        then-if (IsOf t) (Stays n) (put t x.value places v left) _
        (put-if t x.value places v g.kinds g.item left k.0 k.2 (subst (λ l. kind_inside l g.kinds ≡ Some g.item) (sym k.1) g.inside) g.are g.has) (λ w m h. after t e w h)

known-first : (b : Bool) (n m : Known) (o : Option Known) → b ≡ true → (if b then Some n else o) ≡ Some m → n ≡ m
known-first true n m o e f = cc
known-first false n m o e f = absurd (true≢false (sym e))

known-later : (b : Bool) (n m : Known) (o : Option Known) → b ≡ false → (if b then Some n else o) ≡ Some m → o ≡ Some m
known-later true n m o e f = absurd (true≢false e)
known-later false n m o e f = f

or-later : (b c : Bool) → b ≡ false → (b || c) ≡ true → c ≡ true
or-later true c e f = absurd (true≢false e)
or-later false c e f = f

assigned-stays : (ns ms : List Known) (xs : List Var) (name : List ℕ) (n : Known) (places : Values) (v : Value) (left : ℕ) → n.changes ≡ true → is_among name xs ≡ true → AllStay ns xs
    → known_as name (ns ++ ms) ≡ Some n → IsGiven n.kind places v → GivesOrTraps (AllStay ns) (assigned xs name places v left)
assigned-stays [] ms [] name n places v left c i s e g = absurd (true≢false (sym i))
assigned-stays [] ms (x ∷ xs) name n places v left c i s e g = absurd s
assigned-stays (k ∷ ns) ms [] name n places v left c i s e g = absurd s
assigned-stays (k ∷ ns) ms (x ∷ xs) name n places v left c i s e g = go (bytes_eq x.name name) refl (λ later. assigned-stays ns ms xs name n places v left c later s.1)
  where
    there : (b : Bool) → bytes_eq x.name name ≡ b → bytes_eq k.name name ≡ b
    there b f = ap (λ t. bytes_eq t name) (sym s.0.name) ∙ f

    go : (b : Bool) → bytes_eq x.name name ≡ b
        → (is_among name xs ≡ true → known_as name (ns ++ ms) ≡ Some n → IsGiven n.kind places v → GivesOrTraps (AllStay ns) (assigned xs name places v left))
        → GivesOrTraps (AllStay (k ∷ ns)) (if b then and_then (assigned_to x places v left) (λ y j. Gives (y ∷ xs) j) else and_then (assigned xs name places v left) (λ ys j. Gives (x ∷ ys) j))
    go true f ih =
        let same : k ≡ n = known-first (bytes_eq k.name name) k n (known_as name (ns ++ ms)) (there true f) e in
        then-if (Stays k) (AllStay (k ∷ ns)) (assigned_to x places v left) _
        (assigned-to-stays k x places v left (subst (λ l. l.changes ≡ true) (sym same) c) s.0 (subst (λ l. IsGiven l.kind places v) (sym same) g)) (λ y j h. (h, s.1))
    go false f ih =
        then-if (AllStay ns) (AllStay (k ∷ ns)) (assigned xs name places v left) _
        (ih (or-later (bytes_eq x.name name) (is_among name xs) f i) (known-later (bytes_eq k.name name) k n (known_as name (ns ++ ms)) (there false f) e) g) (λ ys j h. (s.0, h))

either-false : (a b : Bool) → (a || b) ≡ false → (a ≡ false) × (b ≡ false)
either-false true b e = absurd (true≢false e)
either-false false b e = (refl, e)

-- a name that isn't among locals is one of the globals
known-behind : (ns ms : List Known) (xs : List Var) (name : List ℕ) → AllStay ns xs → is_among name xs ≡ false → known_as name (ns ++ ms) ≡ known_as name ms
known-behind [] ms xs name s e = refl
known-behind (k ∷ ns) ms [] name s e = absurd s
known-behind (k ∷ ns) ms (x ∷ xs) name s e =
    let parts = either-false (bytes_eq x.name name) (is_among name xs) e in
    let f : bytes_eq k.name name ≡ false = ap (λ t. bytes_eq t name) (sym s.0.name) ∙ parts.0 in
    ap (λ b. if b then Some k else known_as name (ns ++ ms)) f ∙ known-behind ns ms xs name s.1 parts.1

-- ---- variables of an actor

-- a variable that is assigned changes, and keeps the type that it was declared with
kept-as : (changes : Bool) (s t : Shape) → (if changes then Some s else None) ≡ Some t → (changes ≡ true) × (s ≡ t)
kept-as true s t e = (refl, same-shape-of s t e)
kept-as false s t e = absurd (no-shape t e)

assigned-to-is : (h : Held) (x : Var) (places : Values) (v : Value) (left : ℕ) → h.changes ≡ true → IsType h.shape → IsVarOf h x → IsGiven (kind_of_type h.shape) places v → GivesOrTraps (IsVarOf h) (assigned_to x places v left)
assigned-to-is h x places v left c type i g = go x.kept refl
  where
    after : (t : Shape) → x.kept ≡ Some t → (w : Value) → IsOf t w → IsVarOf h (record x { value = w })
    after t e w is =
        let k = kept-as h.changes h.shape t (sym i.kept ∙ e) in
        record { name = i.name; kept = i.kept; value = subst (λ s. IsOf s w) (sym k.1) is; constant = λ f. absurd (true≢false (sym k.0 ∙ f)) }

    go : (o : Option Shape) → x.kept ≡ o → GivesOrTraps (IsVarOf h) (elim o [ None ↦ Clashes | Some t ↦ and_then (put t x.value places v left) (λ w k. Gives (record x { value = w }) k) ])
    go None e = let no : None ≡ Some h.shape = sym e ∙ i.kept ∙ ap (λ b. if b then Some h.shape else None) c in absurd (no-shape h.shape no)
    go (Some t) e =
        let k = kept-as h.changes h.shape t (sym i.kept ∙ e) in
        then-if (IsOf t) (IsVarOf h) (put t x.value places v left) _
        (put-if t x.value places v g.kinds g.item left (subst (λ s. IsType s) k.1 type) (subst (λ s. IsOf s x.value) k.1 i.value)
        (subst (λ s. kind_inside (kind_of_type s) g.kinds ≡ Some g.item) k.1 g.inside) g.are g.has) (λ w m is. after t e w is)

abbrev pub Typed : List Held → Type 0
Typed hs = Each (λ h. IsType h.shape) hs

assigned-are : (hs : List Held) (xs : List Var) (name : List ℕ) (n : Known) (places : Values) (v : Value) (left : ℕ) → n.changes ≡ true → Typed hs → AreVarsOf hs xs → known_as name (map known_of hs) ≡ Some n
    → IsGiven n.kind places v → GivesOrTraps (AreVarsOf hs) (assigned xs name places v left)
assigned-are [] [] name n places v left c ts s e g = let no : None ≡ Some n = e in absurd (grind arith)
assigned-are [] (x ∷ xs) name n places v left c ts s e g = absurd s
assigned-are (h ∷ hs) [] name n places v left c ts s e g = absurd s
assigned-are (h ∷ hs) (x ∷ xs) name n places v left c ts s e g = go (bytes_eq x.name name) refl (assigned-are hs xs name n places v left c ts.1 s.1)
  where
    there : (b : Bool) → bytes_eq x.name name ≡ b → bytes_eq h.name name ≡ b
    there b f = ap (λ t. bytes_eq t name) (sym s.0.name) ∙ f

    go : (b : Bool) → bytes_eq x.name name ≡ b → (known_as name (map known_of hs) ≡ Some n → IsGiven n.kind places v → GivesOrTraps (AreVarsOf hs) (assigned xs name places v left))
        → GivesOrTraps (AreVarsOf (h ∷ hs)) (if b then and_then (assigned_to x places v left) (λ y j. Gives (y ∷ xs) j) else and_then (assigned xs name places v left) (λ ys j. Gives (x ∷ ys) j))
    go true f ih =
        let same : known_of h ≡ n = known-first (bytes_eq h.name name) (known_of h) n (known_as name (map known_of hs)) (there true f) e in
        then-if (IsVarOf h) (AreVarsOf (h ∷ hs)) (assigned_to x places v left) _
        (assigned-to-is h x places v left (subst (λ l. l.changes ≡ true) (sym same) c) ts.0 s.0 (subst (λ l. IsGiven l.kind places v) (sym same) g)) (λ y j i. (i, s.1))
    go false f ih =
        then-if (AreVarsOf hs) (AreVarsOf (h ∷ hs)) (assigned xs name places v left) _
        (ih (known-later (bytes_eq h.name name) (known_of h) n (known_as name (map known_of hs)) (there false f) e) g) (λ ys j i. (s.0, i))

-- an actor's variable stands for its name
var-stays : (h : Held) (x : Var) → IsType h.shape → IsVarOf h x → Stays (known_of h) x
var-stays h x type i = record {
  name = i.name;
  stands = record { kind = of-type x.value h.shape type i.value; constant = λ w e. fixed h.changes refl w e };
  kept = λ t e. moving t (kept-as h.changes h.shape t (sym i.kept ∙ e));
  may = λ c. (h.shape, i.kept ∙ ap (λ b. if b then Some h.shape else None) c);
}
  where
    fixed : (b : Bool) → h.changes ≡ b → (w : Value) → (if h.changes then None else Some h.value) ≡ Some w → x.value ≡ w
    fixed true f w e = let no : None ≡ Some w = ap (λ b. if b then None else Some h.value) (sym f) ∙ e in absurd (grind arith)
    fixed false f w e = let same : Some h.value ≡ Some w = ap (λ b. if b then None else Some h.value) (sym f) ∙ e in i.constant f ∙ (let v : h.value ≡ w = cc in v)

    moving : (t : Shape) → (h.changes ≡ true) × (h.shape ≡ t) → IsType t × (kind_of_type t ≡ kind_of_type h.shape) × IsOf t x.value × ((if h.changes then None else Some h.value) ≡ None)
    moving t k =
        (subst (λ s. IsType s) k.1 type, ap kind_of_type (sym k.1), subst (λ s. IsOf s x.value) k.1 i.value, ap (λ b. if b then None else Some h.value) k.0)

vars-stay : (hs : List Held) (xs : List Var) → Typed hs → AreVarsOf hs xs → AllStay (map known_of hs) xs
vars-stay [] [] ts s = tt
vars-stay [] (x ∷ xs) ts s = absurd s
vars-stay (h ∷ hs) [] ts s = absurd s
vars-stay (h ∷ hs) (x ∷ xs) ts s = (var-stays h x ts.0 s.0, vars-stay hs xs ts.1 s.1)

both-stay : (ns ms : List Known) (xs ys : List Var) → AllStay ns xs → AllStay ms ys → AllStay (ns ++ ms) (xs ++ ys)
both-stay [] ms [] ys s t = t
both-stay [] ms (x ∷ xs) ys s t = absurd s
both-stay (n ∷ ns) ms [] ys s t = absurd s
both-stay (n ∷ ns) ms (x ∷ xs) ys s t = (s.0, both-stay ns ms xs ys s.1 t)

found-first : (b : Bool) (x : Value) (v : Value) (o : Option Value) → b ≡ true → (if b then Some x else o) ≡ Some v → x ≡ v
found-first true x v o e f = cc
found-first false x v o e f = absurd (true≢false (sym e))

found-later : (b : Bool) (x : Value) (v : Value) (o : Option Value) → b ≡ false → (if b then Some x else o) ≡ Some v → o ≡ Some v
found-later true x v o e f = absurd (true≢false e)
found-later false x v o e f = f

stay-for : (ns : List Known) (xs : List Var) → AllStay ns xs → StandFor ns xs
stay-for [] xs s name n v e f = let no : None ≡ Some n = e in absurd (grind arith)
stay-for (k ∷ ns) [] s name n v e f = absurd s
stay-for (k ∷ ns) (x ∷ xs) s name n v e f = go (bytes_eq x.name name) refl (stay-for ns xs s.1 name n v)
  where
    there : (b : Bool) → bytes_eq x.name name ≡ b → bytes_eq k.name name ≡ b
    there b g = ap (λ t. bytes_eq t name) (sym s.0.name) ∙ g

    go : (b : Bool) → bytes_eq x.name name ≡ b → (known_as name ns ≡ Some n → find name xs ≡ Some v → StandsFor n v) → StandsFor n v
    go true g ih =
        let same : k ≡ n = known-first (bytes_eq k.name name) k n (known_as name ns) (there true g) e in
        let value : x.value ≡ v = found-first (bytes_eq x.name name) x.value v (find name xs) g f in
        subst (λ m. StandsFor m v) same (subst (λ w. StandsFor k w) value s.0.stands)
    go false g ih = ih (known-later (bytes_eq k.name name) k n (known_as name ns) (there false g) e) (found-later (bytes_eq x.name name) x.value v (find name xs) g f)

stay-has : (ns : List Known) (xs : List Var) → AllStay ns xs → HasEach ns xs
stay-has [] xs s name n e = let no : None ≡ Some n = e in absurd (grind arith)
stay-has (k ∷ ns) [] s name n e = absurd s
stay-has (k ∷ ns) (x ∷ xs) s name n e = go (bytes_eq x.name name) refl (stay-has ns xs s.1 name n)
  where
    go : (b : Bool) → bytes_eq x.name name ≡ b → (known_as name ns ≡ Some n → (v : Value) × (find name xs ≡ Some v)) → (v : Value) × (find name (x ∷ xs) ≡ Some v)
    go true g ih = (x.value, ap (λ b. if b then Some x.value else find name xs) g)
    go false g ih =
        let f : bytes_eq k.name name ≡ false = ap (λ t. bytes_eq t name) (sym s.0.name) ∙ g in
        let rest = ih (known-later (bytes_eq k.name name) k n (known_as name ns) f e) in
        (rest.0, ap (λ b. if b then Some x.value else find name xs) g ∙ rest.1)

-- ---- environments

-- An environment of an actor's variables and of locals that stand for these names.
pub record Good (hs : List Held) (ns : List Known) (env : Env) : Type 0 where
  pub globals : AreVarsOf hs env.globals
  pub locals : AllStay ns env.locals

-- Names of which the global ones are the actor's, and the locals are these.
pub record Fixed (hs : List Held) (ns : List Known) (names : Names) : Type 0 where
  pub funs : Each (IsOfItsKinds names) names.funs
  pub ends : FunsNeverReturn names.funs
  pub globals : names.globals ≡ map known_of hs
  pub locals : names.locals ≡ ns

fixed-all : (hs : List Held) (ns : List Known) (names : Names) → Fixed hs ns names → names.locals ++ names.globals ≡ ns ++ map known_of hs
fixed-all hs ns names f = ap (λ ls. ls ++ names.globals) f.locals ∙ ap (λ gs. ns ++ gs) f.globals

pub good-env : (hs : List Held) (ns : List Known) (names : Names) (env : Env) → Typed hs → Fixed hs ns names → Good hs ns env → IsEnvOf names env
good-env hs ns names env ts f g =
    let globals = vars-stay hs env.globals ts g.globals in
    record {
      globals = subst (λ ms. StandFor ms env.globals) (sym f.globals) (stay-for (map known_of hs) env.globals globals);
      all = subst (λ ms. StandFor ms (env.locals ++ env.globals)) (sym (fixed-all hs ns names f)) (stay-for (ns ++ map known_of hs) (env.locals ++ env.globals) (both-stay ns (map known_of hs) env.locals env.globals g.locals globals));
    }

good-has : (hs : List Held) (ns : List Known) (names : Names) (env : Env) → Typed hs → Fixed hs ns names → Good hs ns env → HasAllOf names env
good-has hs ns names env ts f g =
    let globals = vars-stay hs env.globals ts g.globals in
    record {
      globals = subst (λ ms. HasEach ms env.globals) (sym f.globals) (stay-has (map known_of hs) env.globals globals);
      all = subst (λ ms. HasEach ms (env.locals ++ env.globals)) (sym (fixed-all hs ns names f)) (stay-has (ns ++ map known_of hs) (env.locals ++ env.globals) (both-stay ns (map known_of hs) env.locals env.globals g.locals globals));
    }

-- it fits the names, and lacks none
pub good-fits : (hs : List Held) (ns : List Known) (names : Names) (env : Env) → Typed hs → Fixed hs ns names → Good hs ns env → Fits ⊥ any_name (calls_of names.funs) names env
good-fits hs ns names env ts f g = env-fits-all names env f.funs f.ends (good-env hs ns names env ts f g) (good-has hs ns names env ts f g)

pub assign-good : (hs : List Held) (ns : List Known) (names : Names) (env : Env) (name : List ℕ) (n : Known) (places : Values) (v : Value) (left : ℕ) → Typed hs → Fixed hs ns names → Good hs ns env
    → n.changes ≡ true → known_as name (names.locals ++ names.globals) ≡ Some n → IsGiven n.kind places v → GivesOrTraps (Good hs ns) (assign env name places v left)
assign-good hs ns names env name n places v left ts f g c e is = go (is_among name env.locals) refl
  where
    known : known_as name (ns ++ map known_of hs) ≡ Some n
    known = subst (λ ms. known_as name ms ≡ Some n) (fixed-all hs ns names f) e

    go : (b : Bool) → is_among name env.locals ≡ b
        → GivesOrTraps (Good hs ns) (if b then and_then (assigned env.locals name places v left) (λ xs k. Gives (record env { locals = xs }) k) else and_then (assigned env.globals name places v left) (λ xs k. Gives (record env { globals = xs }) k))
    go true h =
        then-if (AllStay ns) (Good hs ns) (assigned env.locals name places v left) _ (assigned-stays ns (map known_of hs) env.locals name n places v left c h g.locals known is)
        (λ xs k s. record { globals = g.globals; locals = s })
    go false h =
        then-if (AreVarsOf hs) (Good hs ns) (assigned env.globals name places v left) _
        (assigned-are hs env.globals name n places v left c ts g.globals (sym (known-behind ns (map known_of hs) env.locals name g.locals h) ∙ known) is)
        (λ xs k s. record { globals = s; locals = g.locals })

-- one more local
pub good-more : (hs : List Held) (ns : List Known) (env : Env) (n : Known) (x : Var) → Stays n x → Good hs ns env → Good hs (n ∷ ns) (with_local x env)
good-more hs ns env n x s g = record { globals = g.globals; locals = (s, g.locals) }

fun-same : (names other : Names) (f : Fun) → outside names ≡ outside other → IsOfItsKinds names f → IsOfItsKinds other f
fun-same names other f e i = record {
  formals = i.formals;
  locals = subst (λ n. StartsAreOf f.locals (with_locals f.formals n)) e i.locals;
  result = i.result;
  body = subst (λ n. kind f.body (with_locals f.locals (with_locals f.formals n)) ≡ Fine (kind_of_scalar f.result)) e i.body;
}

pub funs-same : (names other : Names) (fs : List Fun) → outside names ≡ outside other → Each (IsOfItsKinds names) fs → Each (IsOfItsKinds other) fs
funs-same names other [] e h = tt
funs-same names other (f ∷ fs) e h = (fun-same names other f e h.0, funs-same names other fs e h.1)

pub fixed-more : (hs : List Held) (ns : List Known) (names : Names) (n : Known) → Fixed hs ns names → Fixed hs (n ∷ ns) (with_known n names)
fixed-more hs ns names n f = record {
  funs = funs-same names (with_known n names) names.funs refl f.funs;
  ends = f.ends;
  globals = f.globals;
  locals = ap (λ ls. n ∷ ls) f.locals;
}

-- ---- leaving a part

stay-count : (ns : List Known) (xs : List Var) → AllStay ns xs → length xs ≡ length ns
stay-count [] [] s = refl
stay-count [] (x ∷ xs) s = absurd s
stay-count (n ∷ ns) [] s = absurd s
stay-count (n ∷ ns) (x ∷ xs) s = ap suc (stay-count ns xs s.1)

count-both : (ms ns : List Known) → length (ms ++ ns) ≡ length ms + length ns
count-both [] ns = omega arith
count-both (m ∷ ms) ns = let e : length (ms ++ ns) ≡ length ms + length ns = count-both ms ns in omega arith

dropped-stay : (ms ns : List Known) (xs : List Var) → AllStay (ms ++ ns) xs → AllStay ns (drop (length ms) xs)
dropped-stay [] ns xs s = s
dropped-stay (m ∷ ms) ns [] s = absurd s
dropped-stay (m ∷ ms) ns (x ∷ xs) s = dropped-stay ms ns xs s.1

pub good-back : (hs : List Held) (ms ns : List Known) (before after : Env) → Good hs ns before → Good hs (ms ++ ns) after → Good hs ns (back_to before after)
good-back hs ms ns before after g h =
    let e : length after.locals ≡ length (ms ++ ns) = stay-count (ms ++ ns) after.locals h.locals in
    let f : length before.locals ≡ length ns = stay-count ns before.locals g.locals in
    let c : length (ms ++ ns) ≡ length ms + length ns = count-both ms ns in
    let d : length after.locals - length before.locals ≡ length ms = omega arith in
    record { globals = h.globals; locals = subst (λ k. AllStay ns (drop k after.locals)) (sym d) (dropped-stay ms ns after.locals h.locals) }
