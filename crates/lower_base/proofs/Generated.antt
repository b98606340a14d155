-- Generators that are written out count as they are seen to.
use Rattle.std.proofs.Common.{◌≡◌, ℕ, zero, suc, ◌*◌, ℤ, pos, ◌+ℤ◌, Bool, true, false, refl, sym, ap, ◌∙◌, subst, Option, None, Some, arith}
use Rattle.std.specs.Prelude.{◌^◌, if◌then◌else◌, int_lt, nat_lt, ◌||◌, ◌-ℤ◌, unsigned_abs}
use Rattle.std.proofs.lemmas.Int.{ints}
use Rattle.rvc_base.specs.declared.scalar.Scalar.{Scalar}
use Rattle.rvc_base.specs.Turns.{max_turns}
use Rattle.cal_ast.specs.Tree as tree
use Rattle.cal_ast.specs.Tree.{Tree}
use Rattle.cal_model.specs.Value.{Shape, Single, Value, Num, Values, Nil, joined, stored}
use Rattle.cal_model.specs.Outcome.{Out, Gives, alone, and_then}
use Rattle.cal_model.specs.Env.{Env, variable, with_local}
use Rattle.cal_model.specs.Expression.{Calls, each_from, elements, eval, range_of, span}
use Rattle.lower_base.specs.Bounds.{bound_of}
use Rattle.lower_base.specs.Generators.{Counted, counted_by, how_many, makes_none, ranged, ranged_by, some_counted, spanned, times}
use Rattle.lower_base.specs.Meant.{single_meant}
use Rattle.lower_base.proofs.Bounded.{bound_gives}
pub use Rattle.lower_base.proofs.Bounded.{bound_num, negative_num}
use Rattle.lower_base.proofs.MeantIs.{meant_is}

-- ---- generators

no_count : (x : Counted) → ◌≡◌ {A = Option Counted} None (Some x) → ⊥
no_count x e = cc

-- a tree is a generator whose type and bounds are written out
pub record IsRanged (g : Tree) (x : Counted) : Type 0 where
  pub shape : Tree
  pub place : ℕ
  pub from : Tree
  pub to : Tree
  pub at : ℕ
  pub is : g ≡ tree.gen shape (tree.ident x.text place) from to at
  pub kind : single_meant shape ≡ Some x.kind
  pub low : bound_of from ≡ Some x.low
  pub high : bound_of to ≡ Some x.high

is_ranged : (g : Tree) (x : Counted) → ranged_by g ≡ Some x → IsRanged g x
is_ranged (tree.gen shape (tree.ident text place) from to at) x e = go (single_meant shape) (bound_of from) (bound_of to) refl refl refl e
  where
    go : (t : Option Scalar) (a b : Option ℤ) → single_meant shape ≡ t → bound_of from ≡ a → bound_of to ≡ b → ranged text t a b ≡ Some x → IsRanged (tree.gen shape (tree.ident text place) from to at) x
    go None a b p q r h = cc
    go (Some t) None b p q r h = cc
    go (Some t) (Some low) None p q r h = cc
    go (Some t) (Some low) (Some high) p q r h =
        let made : Counted = record { text = text; kind = t; low = low; high = high } in
        let same : made ≡ x = cc in
        subst (λ y. IsRanged (tree.gen shape (tree.ident text place) from to at) y) same
        (record { shape = shape; place = place; from = from; to = to; at = at; is = refl; kind = p; low = q; high = r })
is_ranged g x e = absurd (no_count x e)

-- .. with one number at least
pub record IsGenerator (g : Tree) (x : Counted) : Type 0 where
  pub shape : Tree
  pub place : ℕ
  pub from : Tree
  pub to : Tree
  pub at : ℕ
  pub is : g ≡ tree.gen shape (tree.ident x.text place) from to at
  pub kind : single_meant shape ≡ Some x.kind
  pub low : bound_of from ≡ Some x.low
  pub high : bound_of to ≡ Some x.high
  pub some : int_lt x.high x.low ≡ false

some_is : (o : Option Counted) (x : Counted) → some_counted o ≡ Some x → (o ≡ Some x) × (int_lt x.high x.low ≡ false)
some_is None x e = cc
some_is (Some y) x e = go (int_lt y.high y.low) refl e
  where
    go : (b : Bool) → int_lt y.high y.low ≡ b → ◌≡◌ {A = Option Counted} (if b then None else Some y) (Some x) → (◌≡◌ {A = Option Counted} (Some y) (Some x)) × (int_lt x.high x.low ≡ false)
    go true h i = cc
    go false h i = let same : y ≡ x = cc in (i, subst (λ z. int_lt z.high z.low ≡ false) same h)

pub generator : (g : Tree) (x : Counted) → counted_by g ≡ Some x → IsGenerator g x
generator g x e =
    let both = some_is (ranged_by g) x e in
    let f : IsRanged g x = is_ranged g x both.0 in
    record { shape = f.shape; place = f.place; from = f.from; to = f.to; at = f.at; is = f.is; kind = f.kind; low = f.low; high = f.high; some = both.1 }

-- what the elements are, for each number of the first generator
ranged_are : (g gens : Tree) (x : Counted) (item : Env → ℕ → Out Value) (calls : Calls) (env : Env) (left : ℕ) → ranged_by g ≡ Some x
    → elements (tree.cons g gens) item calls env left ≡ each_from (span x.low x.high) x.low (λ i m. elements gens item calls (with_local (variable x.text (Single x.kind) false (stored (Single x.kind) (Num i))) env) m) left
ranged_are g gens x item calls env left e =
    let f : IsRanged g x = is_ranged g x e in
    let each : Shape → ℤ → ℤ → ℕ → Out Values = λ t low high k. each_from (span low high) low (λ i m. elements gens item calls (with_local (variable x.text t false (stored t (Num i))) env) m) k in
    ap (λ y. elements (tree.cons y gens) item calls env left) f.is
    ∙ ap (λ (o : Out Shape). and_then o (λ t h. and_then (alone (eval f.from calls env max_turns) h) (λ a j. and_then (alone (eval f.to calls env max_turns) j) (λ b k. range_of a b (λ low high. each t low high k))))) (meant_is f.shape x.kind calls env left f.kind)
    ∙ ap (λ (o : Out Value). and_then (alone o left) (λ a j. and_then (alone (eval f.to calls env max_turns) j) (λ b k. range_of a b (λ low high. each (Single x.kind) low high k)))) (bound_gives f.from x.low calls env max_turns f.low)
    ∙ ap (λ (o : Out Value). and_then (alone o left) (λ b k. range_of (Num x.low) b (λ low high. each (Single x.kind) low high k))) (bound_gives f.to x.high calls env max_turns f.high)

pub elements_are : (g gens : Tree) (x : Counted) (item : Env → ℕ → Out Value) (calls : Calls) (env : Env) (left : ℕ) → counted_by g ≡ Some x
    → elements (tree.cons g gens) item calls env left ≡ each_from (span x.low x.high) x.low (λ i m. elements gens item calls (with_local (variable x.text (Single x.kind) false (stored (Single x.kind) (Num i))) env) m) left
elements_are g gens x item calls env left e = ranged_are g gens x item calls env left (some_is (ranged_by g) x e).0

-- ---- generators that make nothing

each_none : (n : ℕ) (i : ℤ) (f : ℤ → ℕ → Out Values) (left : ℕ) → ((j : ℤ) (m : ℕ) → f j m ≡ Gives Nil m) → each_from n i f left ≡ Gives Nil left
each_none zero i f left h = refl
each_none (suc n) i f left h =
    ap (λ (o : Out Values). and_then o (λ vs m. and_then (each_from n (i +ℤ pos 1) f m) (λ ws k. Gives (joined vs ws) k))) (h i left)
    ∙ ap (λ (o : Out Values). and_then o (λ ws k. Gives (joined Nil ws) k)) (each_none n (i +ℤ pos 1) f left h)

-- no turn is taken, and no element evaluated
abbrev NoneMade : Tree → (Env → ℕ → Out Value) → Calls → Type 0
NoneMade gens item calls = (env : Env) (left : ℕ) → makes_none gens ≡ true → elements gens item calls env left ≡ Gives Nil left

empty_one : (g gens : Tree) (x : Counted) (item : Env → ℕ → Out Value) (calls : Calls) (env : Env) (left : ℕ) (b : Bool) → ranged_by g ≡ Some x → int_lt x.high x.low ≡ b → b || makes_none gens ≡ true → NoneMade gens item calls
    → elements (tree.cons g gens) item calls env left ≡ Gives Nil left
empty_one g gens x item calls env left true p q h later =
    let each : ℕ → Out Values = λ n. each_from n x.low (λ i m. elements gens item calls (with_local (variable x.text (Single x.kind) false (stored (Single x.kind) (Num i))) env) m) left in
    ranged_are g gens x item calls env left p ∙ ap (λ b. each (if b then 0 else suc (unsigned_abs (x.high -ℤ x.low)))) q
empty_one g gens x item calls env left false p q h later =
    ranged_are g gens x item calls env left p
    ∙ each_none (span x.low x.high) x.low (λ i m. elements gens item calls (with_local (variable x.text (Single x.kind) false (stored (Single x.kind) (Num i))) env) m) left
    (λ i m. later (with_local (variable x.text (Single x.kind) false (stored (Single x.kind) (Num i))) env) m h)

empty_found : (g gens : Tree) (item : Env → ℕ → Out Value) (calls : Calls) (env : Env) (left : ℕ) (o : Option Counted) → ranged_by g ≡ o → ◌≡◌ {A = Bool} (elim o [ None ↦ false | Some x ↦ int_lt x.high x.low || makes_none gens ]) true → NoneMade gens item calls
    → elements (tree.cons g gens) item calls env left ≡ Gives Nil left
empty_found g gens item calls env left None p h later = cc
empty_found g gens item calls env left (Some x) p h later = empty_one g gens x item calls env left (int_lt x.high x.low) p refl h later

pub none_made : (gens : Tree) (item : Env → ℕ → Out Value) (calls : Calls) (env : Env) (left : ℕ) → makes_none gens ≡ true → elements gens item calls env left ≡ Gives Nil left
none_made (tree.cons g gens) item calls env left e = empty_found g gens item calls env left (ranged_by g) refl e (λ now m h. none_made gens item calls now m h)
none_made gens item calls env left e = cc

-- the numbers of a range behind the first
range_count : (low high : ℤ) → int_lt high low ≡ false → high ≡ low +ℤ pos (unsigned_abs (high -ℤ low))
range_count low high e = grind (arith, ints, e)

-- how many numbers come behind the first one
pub record IsRange (low high : ℤ) : Type 0 where
  pub behind : ℕ
  pub is : span low high ≡ suc behind
  pub last : high ≡ low +ℤ pos behind

pub range : (low high : ℤ) → int_lt high low ≡ false → IsRange low high
range low high e = record {
  behind = unsigned_abs (high -ℤ low);
  is = ap (λ b. if b then 0 else suc (unsigned_abs (high -ℤ low))) e;
  last = range_count low high e;
}

-- how many elements there are, if there are so many for each number
pub record IsMany (x : Counted) (gens : Tree) (many : ℕ) : Type 0 where
  pub each : ℕ
  pub inside : how_many gens ≡ Some each
  pub is : many ≡ span x.low x.high * each

bounded : (n m : ℕ) (b : Bool) → ◌≡◌ {A = Option ℕ} (if b then Some n else None) (Some m) → n ≡ m
bounded n m true e = cc
bounded n m false e = cc

pub many_found : (g gens : Tree) (x : Counted) (many : ℕ) → counted_by g ≡ Some x → how_many (tree.cons g gens) ≡ Some many → IsMany x gens many
many_found g gens x many e h =
    go (spanned x.low x.high) (how_many gens) refl refl
    (sym (ap (λ (o : Option Counted). elim o [ None ↦ None | Some y ↦ times (spanned y.low y.high) (how_many gens) ]) e) ∙ h)
  where
    go : (o p : Option ℕ) → spanned x.low x.high ≡ o → how_many gens ≡ p → times o p ≡ Some many → IsMany x gens many
    go None p q r f = cc
    go (Some n) None q r f = cc
    go (Some n) (Some k) q r f =
        let wide : span x.low x.high ≡ n = bounded (span x.low x.high) n (nat_lt (span x.low x.high) (2 ^ 32)) q in
        record { each = k; inside = r; is = sym (bounded (n * k) many (nat_lt (n * k) (2 ^ 32)) f) ∙ ap (λ y. y * k) (sym wide) }
