-- Generators whose types and bounds are written out are seen to make as many elements as are judged.
use Rattle.std.proofs.Common.{◌≡◌, ℕ, zero, suc, ◌*◌, ◌≤◌, ◌^◌, ℤ, Bool, true, false, List, ◌∷◌, refl, sym, ap, ◌∙◌, subst, Option, None, Some, arith}
use Rattle.std.specs.Prelude.{◌||◌, ◌-ℤ◌, if◌then◌else◌, int_lt, nat_lt, unsigned_abs}
use Rattle.std.proofs.lemmas.Bool.Decides.{nat_tests}
use Rattle.rvc_base.specs.declared.scalar.Scalar.{Scalar}
use Rattle.rvc_base.specs.declared.scalar.Scalar.TheVariants as scalar
use Rattle.rvc_base.specs.Rules.{wrong_kind}
use Rattle.rvc_base.specs.Storing.{IsSize}
use Rattle.cal_ast.specs.Places.{begins}
use Rattle.cal_ast.specs.Tree as tree
use Rattle.cal_ast.specs.Tree.{Tree}
use Rattle.cal_model.specs.Value.{NumKind, Shape, Single, Many, kind_of_scalar, max_list_scalars}
use Rattle.cal_model.specs.Expression.{span}
use Rattle.cal_model.specs.Kinding.{Fine, Names, constant_number, counter, counts, elements_in, kind, type_judged, with_counters, with_known}
use Rattle.cal_model.specs.Sound.{IsPlain}
use Rattle.cal_model.proofs.KindValues.{fine-is, not-fine, split}
use Rattle.lower_base.specs.Bounds.{bound_of}
use Rattle.lower_base.specs.Generators.{Counted, counted_by, how_many, made_by, makes_none, ranged, ranged_by, some_counted, spanned, times}
use Rattle.lower_base.specs.Growing.{left_out_gens}
use Rattle.lower_base.specs.Names.{Name, local}
use Rattle.lower_base.specs.Truths.{under_gens}
use Rattle.lower_base.proofs.Generated.{IsRange, range}
use Rattle.law_forms.specs.Lowerable.{AreSeen}
use Rattle.law_forms.proofs.Ones.{neither_true}
use Rattle.law_forms.proofs.SeenNames.{seen_more}
use Rattle.law_forms.proofs.SeenTypes.{scalar_seen}
use Rattle.law_forms.proofs.WrittenOut.{constant_bound}

-- ---- one generator

counter_type : (t s : Shape) (at : ℕ) → counts t at ≡ Fine s → (k : Scalar) × (t ≡ Single k) × (kind_of_scalar k ≡ NumKind)
counter_type (Single scalar.Bool) s at h = absurd (not-fine wrong_kind at s h)
counter_type (Single (scalar.Int n)) s at h = (scalar.Int n, refl, refl)
counter_type (Single (scalar.Uint n)) s at h = (scalar.Uint n, refl, refl)
counter_type (Many n t) s at h = absurd (not-fine wrong_kind at s h)

-- a generator is seen to range over these numbers, with a variable of a number type
record IsGen (g : Tree) (name : List ℕ) (a b : ℤ) : Type 0 where
  kind : Scalar
  number : kind_of_scalar kind ≡ NumKind
  size : IsSize kind
  is : ranged_by g ≡ Some (record { text = name; kind = kind; low = a; high = b })

gen_seen : (shape from to : Tree) (name : List ℕ) (place at : ℕ) (known : Names) (t s : Shape) (a b : ℤ) → IsPlain (tree.gen shape (tree.ident name place) from to at) → type_judged shape known ≡ Fine t → counts t (begins shape) ≡ Fine s
    → constant_number (kind from known) from known ≡ Fine a → constant_number (kind to known) to known ≡ Fine b → IsGen (tree.gen shape (tree.ident name place) from to at) name a b
gen_seen shape from to name place at known t s a b plain h i low high =
    let c = counter_type t s (begins shape) i in
    let seen = scalar_seen shape known c.0 plain.0 (h ∙ ap Fine c.1) in
    record {
      kind = c.0;
      number = c.2;
      size = seen.1;
      is = ap (λ o. ranged name o (bound_of from) (bound_of to)) seen.0
          ∙ ap (λ o. ranged name (Some c.0) o (bound_of to)) (constant_bound from known a plain.1 low)
          ∙ ap (λ o. ranged name (Some c.0) (Some a) o) (constant_bound to known b plain.2 high);
    }

-- .. and, if it makes some, to count them
counted_seen : (g : Tree) (x : Counted) → ranged_by g ≡ Some x → int_lt x.high x.low ≡ false → counted_by g ≡ Some x
counted_seen g x e f = ap some_counted e ∙ ap (λ b. if b then None else Some x) f

none_first : (g gens : Tree) (x : Counted) (b : Bool) → ranged_by g ≡ Some x → int_lt x.high x.low ≡ b → makes_none (tree.cons g gens) ≡ b || makes_none gens
none_first g gens x b e f = ap (λ (o : Option Counted). elim o [ None ↦ false | Some y ↦ int_lt y.high y.low || makes_none gens ]) e ∙ ap (λ c. c || makes_none gens) f

-- ---- how many elements

-- generators make no element, or some
pub data Made (gens : Tree) (n : ℕ) : Type 0 where
  makes_nothing : makes_none gens ≡ true → n ≡ 0 → Made gens n
  makes_some : makes_none gens ≡ false → 1 ≤ n → (n ≤ max_list_scalars → how_many gens ≡ Some n) → Made gens n

low_product : (j m n : ℕ) → n ≡ suc j * m → 1 ≤ m → n ≤ max_list_scalars → (suc j ≤ max_list_scalars) × (m ≤ max_list_scalars)
low_product j zero n e low few = absurd (omega (arith, low))
low_product j (suc m) n e low few = (let a : suc j ≤ max_list_scalars = omega (arith, e, few) in a, let b : suc m ≤ max_list_scalars = omega (arith, e, few) in b)

some_product : (j m n : ℕ) → n ≡ suc j * m → 1 ≤ m → 1 ≤ n
some_product j zero n e low = absurd (omega (arith, low))
some_product j (suc m) n e low = omega (arith, e)

many_more : (g gens : Tree) (x : Counted) (j m n : ℕ) → counted_by g ≡ Some x → span x.low x.high ≡ suc j → n ≡ suc j * m → 1 ≤ m → (m ≤ max_list_scalars → how_many gens ≡ Some m)
    → n ≤ max_list_scalars → how_many (tree.cons g gens) ≡ Some n
many_more g gens x j m n e s p low many few =
    let both = low_product j m n p low few in
    let one = both.0 in
    let wide : nat_lt (suc j) (2 ^ 32) ≡ true = grind (arith, nat_tests, one) in
    let fits : nat_lt (suc j * m) (2 ^ 32) ≡ true = grind (arith, nat_tests, p, few) in
    let spans : spanned x.low x.high ≡ Some (suc j) = ap (λ k. if nat_lt k (2 ^ 32) then Some k else None) s ∙ ap (λ b. if b then Some (suc j) else None) wide in
    ap (λ (o : Option Counted). elim o [ None ↦ None | Some y ↦ times (spanned y.low y.high) (how_many gens) ]) e
    ∙ ap (λ o. times o (how_many gens)) spans ∙ ap (λ o. times (Some (suc j)) o) (many both.1)
    ∙ ap (λ b. if b then Some (suc j * m) else None) fits ∙ ap Some (sym p)

made_more : (g gens : Tree) (x : Counted) (m n : ℕ) → ranged_by g ≡ Some x → span x.low x.high * m ≡ n → Made gens m → Made (tree.cons g gens) n
made_more g gens x m n e p made = by_first (int_lt x.high x.low) refl
  where
    by_rest : Made gens m → int_lt x.high x.low ≡ false → Made (tree.cons g gens) n
    by_rest (makes_nothing none zeros) f =
        makes_nothing (none_first g gens x false e f ∙ none) (sym p ∙ ap (λ k. span x.low x.high * k) zeros ∙ (let z : span x.low x.high * 0 ≡ 0 = omega arith in z))
    by_rest (makes_some some low many) f =
        let r : IsRange x.low x.high = range x.low x.high f in
        let product : n ≡ suc r.behind * m = sym p ∙ ap (λ k. k * m) r.is in
        makes_some (none_first g gens x false e f ∙ some) (some_product r.behind m n product low)
        (λ few. many_more g gens x r.behind m n (counted_seen g x e f) r.is product low many few)

    by_first : (b : Bool) → int_lt x.high x.low ≡ b → Made (tree.cons g gens) n
    by_first true f =
        makes_nothing (none_first g gens x true e f)
        (sym p ∙ ap (λ b. (if b then 0 else suc (unsigned_abs (x.high -ℤ x.low))) * m) f ∙ (let z : 0 * m ≡ 0 = omega arith in z))
    by_first false f = by_rest made f

pub made_seen : (gens : Tree) (known : Names) (n : ℕ) → IsPlain gens → elements_in gens known ≡ Fine n → Made gens n
made_seen tree.nil known n plain h =
    let one : 1 ≡ n = fine-is 1 n h in
    makes_some refl (omega (arith, one)) (λ few. ap Some one)
made_seen (tree.cons (tree.gen shape (tree.ident name place) from to at) gens) known n plain h =
    let t = split (type_judged shape known) _ n h in
    let s = split (counts t.0 (begins shape)) _ n t.2 in
    let a = split (constant_number (kind from known) from known) _ n s.2 in
    let b = split (constant_number (kind to known) to known) _ n a.2 in
    let rest = split (elements_in gens (with_known (counter name) known)) _ n b.2 in
    let g : IsGen (tree.gen shape (tree.ident name place) from to at) name a.0 b.0 = gen_seen shape from to name place at known t.0 s.0 a.0 b.0 plain.0 t.1 s.1 a.1 b.1 in
    made_more (tree.gen shape (tree.ident name place) from to at) gens (record { text = name; kind = g.kind; low = a.0; high = b.0 }) rest.0 n g.is (fine-is (span a.0 b.0 * rest.0) n rest.2)
    (made_seen gens (with_known (counter name) known) rest.0 plain.1 rest.1)
made_seen other known n plain h = absurd (not-fine wrong_kind 0 n h)

pub made_by_is : (gens : Tree) (n : ℕ) → Made gens n → n ≤ max_list_scalars → made_by gens ≡ Some n
made_by_is gens n (makes_nothing none zeros) few = ap (λ b. if b then Some 0 else how_many gens) none ∙ ap Some (sym zeros)
made_by_is gens n (makes_some some low many) few = ap (λ b. if b then Some 0 else how_many gens) some ∙ many few

-- ---- the names under generators

-- what sees the variables of generators sees these names
pub record IsInside (gens : Tree) (known : Names) (names : List Name) : Type 0 where
  pub inner : List Name
  pub seen : AreSeen (with_counters gens known) inner
  pub left : (inside : List Name → Option ℕ) → left_out_gens names gens inside ≡ inside inner
  pub under : (inside : List Name → Bool) → under_gens names gens inside ≡ inside inner

inside_more : (g gens : Tree) (known more : Names) (x : Counted) (names : List Name) → counted_by g ≡ Some x → with_counters (tree.cons g gens) known ≡ with_counters gens more
    → IsInside gens more (local x.text x.kind 0 ∷ names) → IsInside (tree.cons g gens) known names
inside_more g gens known more x names e same i = record {
  inner = i.inner;
  seen = subst (λ k. AreSeen k i.inner) (sym same) i.seen;
  left = λ inside. ap (λ (o : Option Counted). elim o [ None ↦ None | Some y ↦ left_out_gens (local y.text y.kind 0 ∷ names) gens inside ]) e ∙ i.left inside;
  under = λ inside. ap (λ (o : Option Counted). elim o [ None ↦ false | Some y ↦ under_gens (local y.text y.kind 0 ∷ names) gens inside ]) e ∙ i.under inside;
}

pub inside_gens : (gens : Tree) (known : Names) (names : List Name) (n : ℕ) → IsPlain gens → elements_in gens known ≡ Fine n → makes_none gens ≡ false → AreSeen known names → IsInside gens known names
inside_gens tree.nil known names n plain h some seen = record {
  inner = names;
  seen = seen;
  left = λ inside. refl;
  under = λ inside. refl;
}
inside_gens (tree.cons (tree.gen shape (tree.ident name place) from to at) gens) known names n plain h some seen =
    let t = split (type_judged shape known) _ n h in
    let s = split (counts t.0 (begins shape)) _ n t.2 in
    let a = split (constant_number (kind from known) from known) _ n s.2 in
    let b = split (constant_number (kind to known) to known) _ n a.2 in
    let rest = split (elements_in gens (with_known (counter name) known)) _ n b.2 in
    let g : IsGen (tree.gen shape (tree.ident name place) from to at) name a.0 b.0 = gen_seen shape from to name place at known t.0 s.0 a.0 b.0 plain.0 t.1 s.1 a.1 b.1 in
    let x : Counted = record { text = name; kind = g.kind; low = a.0; high = b.0 } in
    let tests = neither_true (int_lt b.0 a.0) (makes_none gens) (sym (none_first (tree.gen shape (tree.ident name place) from to at) gens x (int_lt b.0 a.0) g.is refl) ∙ some) in
    inside_more (tree.gen shape (tree.ident name place) from to at) gens known (with_known (counter name) known) x names
    (counted_seen (tree.gen shape (tree.ident name place) from to at) x g.is tests.0) refl
    (inside_gens gens (with_known (counter name) known) (local name g.kind 0 ∷ names) rest.0 plain.1 rest.1 tests.1
    (seen_more known names (counter name) (Single g.kind) 0 g.size g.number seen))
inside_gens other known names n plain h some seen = absurd (not-fine wrong_kind 0 n h)
