-- An expression of the kind of truth values is seen to give one, and one of a single kind a single value.
use Rattle.std.proofs.Common.{◌≡◌, ℕ, zero, suc, ◌-◌, Bool, true, false, List, [], ◌∷◌, length, refl, sym, ap, ◌∙◌, subst, Option, None, Some}
use Rattle.std.specs.Prelude.{◌&&◌, ◌||◌, if◌then◌else◌}
use Rattle.rvc_base.specs.declared.scalar.Scalar.{Scalar}
use Rattle.rvc_base.specs.declared.scalar.Scalar.TheVariants as scalar
use Rattle.rvc_base.specs.Rules.{wrong_kind, wrong_number_of_arguments}
use Rattle.cal_ast.specs.declared.expr.PrefixOp.{PrefixOp}
use Rattle.cal_ast.specs.declared.expr.BinOp.{BinOp}
use Rattle.cal_ast.specs.Places.{begins}
use Rattle.cal_ast.specs.Tree as tree
use Rattle.cal_ast.specs.Tree.{Tree}
use Rattle.cal_model.specs.Value.{Kind, NumKind, BoolKind, ListKind, Shape, Single, Many, kind_of_scalar, kind_of_type}
use Rattle.cal_model.specs.Actor.{Fun, Local}
use Rattle.cal_model.specs.Call.{fun_named}
use Rattle.cal_model.specs.Kinding.{Fine, Names, arguments_fit, binary_kind, elements_in, kind, kinds, meant_by, one_kind, prefix_kind, with_counters}
use Rattle.cal_model.specs.Sound.{AreAll, Each, EachCall, IsFormal, IsPlain}
use Rattle.cal_model.proofs.KindValues.{fine-is, list-of-kind, not-fine, one-kind, split, tested}
use Rattle.lower_base.specs.declared.sorts.Sort.{Sort}
use Rattle.lower_base.specs.declared.sorts.Sort.TheVariants as sort
use Rattle.lower_base.specs.Callees.{Function, function_for}
use Rattle.lower_base.specs.Generators.{makes_none}
use Rattle.lower_base.specs.Names.{Name}
use Rattle.lower_base.specs.Parted.{number_of}
use Rattle.lower_base.specs.Truths.{all_give, binary_gives, call_gives, gives_at, is_any, is_of_sort, is_truth_binary, name_gives, prefix_gives, shape_gives, under_gens, with_none, with_one}
use Rattle.lower_base.proofs.Finding.{found_for}
use Rattle.law_forms.specs.Lowerable.{AreSeen, HasRoutine, IsRoutineOf, IsSeen}
use Rattle.law_forms.proofs.ItemsAre.{not_zero, one_less}
use Rattle.law_forms.proofs.Like.{IsOne, one_scalar}
use Rattle.law_forms.proofs.Made.{IsInside, inside_gens}
use Rattle.law_forms.proofs.Ones.{IsItem, IsListed, and_true, binary_one, binary_truth, branch_parts, called, item_parts, known_kind, listed_kinds, or_true, prefix_one, prefix_truth}
use Rattle.law_forms.proofs.SeenNames.{funs_counters}

-- ---- kinds of a sort

abbrev pub IsAny : Sort → Type 0
IsAny sort.Any = Unit {0}
IsAny sort.Truths = ⊥

-- what so many indexes choose of a kind is of a sort
abbrev pub SortAt : Kind → Sort → ℕ → Type 0
SortAt NumKind s zero = IsAny s
SortAt NumKind s (suc d) = ⊥
SortAt BoolKind s zero = Unit {0}
SortAt BoolKind s (suc d) = ⊥
SortAt (ListKind n k) s zero = ⊥
SortAt (ListKind n k) s (suc d) = SortAt k s d

pub one_any : (k : Kind) → IsOne k → SortAt k sort.Any 0
one_any NumKind h = tt
one_any BoolKind h = tt
one_any (ListKind n k) h = absurd h

-- a single value that is a truth value
truth_sort : (k : Kind) (d : ℕ) → IsOne k → SortAt k sort.Truths d → k ≡ BoolKind
truth_sort BoolKind d o h = refl
truth_sort NumKind zero o h = absurd h
truth_sort NumKind (suc d) o h = absurd h
truth_sort (ListKind n k) d o h = absurd o

with_none_true : (k : Kind) (s : Sort) (d : ℕ) (b : Bool) → IsOne k → SortAt k s d → b ≡ true → with_none d b ≡ true
with_none_true NumKind s zero b o h e = e
with_none_true NumKind s (suc d) b o h e = absurd h
with_none_true BoolKind s zero b o h e = e
with_none_true BoolKind s (suc d) b o h e = absurd h
with_none_true (ListKind n k) s d b o h e = absurd o

with_one_true : (d : ℕ) (item : ℕ → Bool) → item d ≡ true → with_one (suc d) item ≡ true
with_one_true d item e = ap (λ b. if b then false else item (suc d - 1)) (not_zero d) ∙ ap item (one_less d) ∙ e

number_any : (s : Sort) (d : ℕ) → SortAt NumKind s d → is_any s ≡ true
number_any sort.Any d h = refl
number_any sort.Truths zero h = absurd h
number_any sort.Truths (suc d) h = absurd h

scalar_sort : (t : Scalar) (s : Sort) (d : ℕ) → SortAt (kind_of_scalar t) s d → is_of_sort s t ≡ true
scalar_sort t sort.Any d h = refl
scalar_sort scalar.Bool sort.Truths d h = refl
scalar_sort (scalar.Int n) sort.Truths zero h = absurd h
scalar_sort (scalar.Int n) sort.Truths (suc d) h = absurd h
scalar_sort (scalar.Uint n) sort.Truths zero h = absurd h
scalar_sort (scalar.Uint n) sort.Truths (suc d) h = absurd h

shape_sort : (t : Shape) (s : Sort) (d : ℕ) → SortAt (kind_of_type t) s d → shape_gives s d t ≡ true
shape_sort (Single t) s d h = with_none_true (kind_of_scalar t) s d (is_of_sort s t) (one_scalar t) h (scalar_sort t s d h)
shape_sort (Many n items) s zero h = absurd h
shape_sort (Many n items) s (suc d) h = with_one_true d (λ k. shape_gives s k items) (shape_sort items s d h)

prefix_sort : (s : Sort) (op : PrefixOp) (k j : Kind) (d at : ℕ) (b : Bool) → prefix_kind op k at ≡ Fine j → IsOne j → SortAt j s d → b ≡ true → prefix_gives s op b ≡ true
prefix_sort sort.Any op k j d at b h o q e = e
prefix_sort sort.Truths op k j d at b h o q e = prefix_truth op k at (h ∙ ap Fine (truth_sort j d o q))

binary_sort : (s : Sort) (op : BinOp) (k m j : Kind) (d at : ℕ) (a b : Bool) → binary_kind op k m at ≡ Fine j → IsOne j → SortAt j s d → a ≡ true → b ≡ true → binary_gives s op a b ≡ true
binary_sort sort.Any op k m j d at a b h o q e f = or_true (is_truth_binary op) (a && b) (and_true a b e f)
binary_sort sort.Truths op k m j d at a b h o q e f = binary_truth op k m at (h ∙ ap Fine (truth_sort j d o q))

-- ---- arguments

-- arguments that fit are as many as formals
pub fit_count : (es : Tree) (known : Names) (fs : List Local) → arguments_fit es fs known ≡ Fine true → number_of es ≡ length fs
fit_count tree.nil known [] h = refl
fit_count tree.nil known (f ∷ fs) h = let e : false ≡ true = fine-is false true h in absurd (cc)
fit_count (tree.cons e es) known [] h =
    let x = split (kind e known) _ true h in
    let y = split (arguments_fit es [] known) _ true x.2 in
    let e : false ≡ true = fine-is false true y.2 in absurd (cc)
fit_count (tree.cons e es) known (f ∷ fs) h =
    let x = split (kind e known) _ true h in
    let y = split (one_kind (kind_of_type f.shape) x.0 (begins e)) _ true x.2 in
    ap suc (fit_count es known fs y.2)
fit_count other known fs h = absurd (not-fine wrong_kind 0 true h)

-- .. and the first of them is a single value
pub formal_one : (f : Local) (k j : Kind) (at : ℕ) → IsFormal f → one_kind (kind_of_type f.shape) k at ≡ Fine j → IsOne k
formal_one f k j at formal h =
    let same = one-kind (kind_of_type f.shape) k j at h in
    subst IsOne (ap kind_of_type (sym formal.single) ∙ same.0) (one_scalar formal.scalar)

-- ---- generators

-- what generators' variables are seen by is seen to give such values, if it is evaluated at all
under_sorted : (gens : Tree) (known : Names) (names : List Name) (n : ℕ) (inside : List Name → Bool) → AreSeen known names → IsPlain gens → elements_in gens known ≡ Fine n
    → ((inner : List Name) → AreSeen (with_counters gens known) inner → inside inner ≡ true) → makes_none gens || under_gens names gens inside ≡ true
under_sorted gens known names n inside seen plain h f = go (makes_none gens) refl
  where
    go : (b : Bool) → makes_none gens ≡ b → b || under_gens names gens inside ≡ true
    go true e = refl
    go false e =
        let i : IsInside gens known names = inside_gens gens known names n plain h e seen in
        i.under inside ∙ f i.inner i.seen

-- ---- expressions

module _ (funs : List Fun) (fs : List Function) (Q : List ℕ → Type 0) where
  -- a function that is called has a routine
  pub record IsCalled (text : List ℕ) (known : Names) (args : Tree) (j : Kind) : Type 0 where
    pub fun : Fun
    pub has : IsRoutineOf fs text fun
    pub fit : arguments_fit args fun.formals known ≡ Fine true
    pub is : kind_of_scalar fun.result ≡ j
    pub found : function_for text (number_of args) fs ≡ Some has.routine

  pub is_called : (text : List ℕ) (args : Tree) (at : ℕ) (known : Names) (j : Kind) → HasRoutine funs fs text → known.funs ≡ funs → kind (tree.call text args at) known ≡ Fine j → IsCalled text known args j
  is_called text args at known j has same h =
      let f = called (fun_named text known.funs) _ j at h in
      let r : IsRoutineOf fs text f.0 = has f.0 (sym (ap (fun_named text) same) ∙ f.1) in
      let i = split (arguments_fit args f.0.formals known) _ j f.2 in
      let b = tested i.0 (Fine (kind_of_scalar f.0.result)) wrong_number_of_arguments at j i.2 in
      let fit : arguments_fit args f.0.formals known ≡ Fine true = i.1 ∙ ap Fine b.0 in
      record {
        fun = f.0;
        has = r;
        fit = fit;
        is = fine-is (kind_of_scalar f.0.result) j b.1;
        found = found_for text fs (number_of args) (length f.0.formals) r.routine r.found r.as_many (sym (fit_count args known f.0.formals fit));
      }

  mutual
    -- an expression of a kind is seen to give values of the sort of that kind
    pub sorted : (e : Tree) (known : Names) (names : List Name) (k : Kind) (s : Sort) (d : ℕ) → AreSeen known names → known.funs ≡ funs → EachCall (HasRoutine funs fs) Q e → kind e known ≡ Fine k → IsPlain e → SortAt k s d
        → gives_at s d fs names e ≡ true
    sorted (tree.number a at) known names k s d seen same calls h plain is =
        let num : SortAt NumKind s d = subst (λ j. SortAt j s d) (sym (fine-is NumKind k h)) is in
        with_none_true NumKind s d (is_any s) tt num (number_any s d num)
    sorted (tree.truth b at) known names k s d seen same calls h plain is =
        with_none_true BoolKind s d true tt (subst (λ j. SortAt j s d) (sym (fine-is BoolKind k h)) is) refl
    sorted (tree.variable text at) known names k s d seen same calls h plain is =
        let x = known_kind (meant_by text known) k at h in
        let y : IsSeen names text x.0 = seen text x.0 x.1 in
        ap (λ (o : Option Name). name_gives s d (elim o [ None ↦ None | Some z ↦ Some z.shape ])) y.is
        ∙ shape_sort y.name.shape s d (subst (λ j. SortAt j s d) (sym (y.kind ∙ x.2)) is)
    sorted (tree.call text args at) known names k s d seen same calls h plain is =
        let c : IsCalled text known args k = is_called text args at known k calls.0 same h in
        let of_kind : SortAt (kind_of_scalar c.fun.result) s d = subst (λ j. SortAt j s d) (sym c.is) is in
        let result : is_of_sort s c.has.routine.result ≡ true = ap (is_of_sort s) c.has.result ∙ scalar_sort c.fun.result s d of_kind in
        with_none_true (kind_of_scalar c.fun.result) s d (call_gives s (function_for text (number_of args) fs) (all_give sort.Any 0 fs names args)) (one_scalar c.fun.result) of_kind
        (ap (λ o. call_gives s o (all_give sort.Any 0 fs names args)) c.found
        ∙ and_true (is_of_sort s c.has.routine.result) (all_give sort.Any 0 fs names args) result (args_sorted args known names c.fun.formals seen same calls.1 c.fit c.has.formals plain))
    sorted (tree.paren e at) known names k s d seen same calls h plain is = sorted e known names k s d seen same calls h plain is
    sorted (tree.if_expr test first other at) known names k s d seen same calls h plain is =
        let x = split (kind test known) _ k h in
        let y = split (kind first known) _ k x.2 in
        let z = split (kind other known) _ k y.2 in
        let b = branch_parts x.0 y.0 z.0 k at z.2 in
        and_true (gives_at s d fs names first) (gives_at s d fs names other)
        (sorted first known names k s d seen same calls.1 (y.1 ∙ ap Fine b.1) plain.1 is)
        (sorted other known names k s d seen same calls.2 (z.1 ∙ ap Fine b.2) plain.2 is)
    sorted (tree.list es at) known names k s zero seen same calls h plain is =
        let ks = split (kinds es known) _ k h in
        let l : IsListed ks.0 k = listed_kinds ks.0 k at ks.2 in
        let none : ⊥ = subst (λ j. SortAt j s 0) (sym l.is) is in
        absurd none
    sorted (tree.list es at) known names k s (suc d) seen same calls h plain is =
        let ks = split (kinds es known) _ k h in
        let l : IsListed ks.0 k = listed_kinds ks.0 k at ks.2 in
        with_one_true d (λ j. all_give s j fs names es)
        (all_sorted es known names ks.0 l.item s d seen same calls ks.1 l.all plain (subst (λ j. SortAt j s (suc d)) (sym l.is) is))
    sorted (tree.comp item gens at) known names k s zero seen same calls h plain is =
        let i = split (kind item (with_counters gens known)) _ k h in
        let m = split (elements_in gens known) _ k i.2 in
        let none : ⊥ = subst (λ j. SortAt j s 0) (sym (list-of-kind m.0 i.0 k at m.2)) is in
        absurd none
    sorted (tree.comp item gens at) known names k s (suc d) seen same calls h plain is =
        let i = split (kind item (with_counters gens known)) _ k h in
        let m = split (elements_in gens known) _ k i.2 in
        let of_item : SortAt i.0 s d = subst (λ j. SortAt j s (suc d)) (sym (list-of-kind m.0 i.0 k at m.2)) is in
        with_one_true d (λ j. makes_none gens || under_gens names gens (λ inner. gives_at s j fs inner item))
        (under_sorted gens known names m.0 (λ inner. gives_at s d fs inner item) seen plain.1 m.1
        (λ inner inside. sorted item (with_counters gens known) inner i.0 s d inside (funs_counters gens known ∙ same) calls.0 i.1 plain.0 of_item))
    sorted (tree.index base place at) known names k s d seen same calls h plain is =
        let x = split (kind base known) _ k h in
        let y = split (kind place known) _ k x.2 in
        let i : IsItem x.0 y.0 k = item_parts x.0 y.0 k at y.2 in
        sorted base known names x.0 s (suc d) seen same calls.0 x.1 plain.0 (subst (λ j. SortAt j s (suc d)) (sym i.list) is)
    sorted (tree.prefix op e at) known names k s d seen same calls h plain is =
        let x = split (kind e known) _ k h in
        let ones = prefix_one op x.0 k at x.2 in
        with_none_true k s d (prefix_gives s op (gives_at sort.Any 0 fs names e)) ones.1 is
        (prefix_sort s op x.0 k d at (gives_at sort.Any 0 fs names e) x.2 ones.1 is
        (sorted e known names x.0 sort.Any 0 seen same calls x.1 plain (one_any x.0 ones.0)))
    sorted (tree.binary op l r at) known names k s d seen same calls h plain is =
        let x = split (kind l known) _ k h in
        let y = split (kind r known) _ k x.2 in
        let ones = binary_one op x.0 y.0 k at y.2 in
        with_none_true k s d (binary_gives s op (gives_at sort.Any 0 fs names l) (gives_at sort.Any 0 fs names r)) ones.2 is
        (binary_sort s op x.0 y.0 k d at (gives_at sort.Any 0 fs names l) (gives_at sort.Any 0 fs names r) y.2 ones.2 is
        (sorted l known names x.0 sort.Any 0 seen same calls.0 x.1 plain.0 (one_any x.0 ones.0))
        (sorted r known names y.0 sort.Any 0 seen same calls.1 y.1 plain.1 (one_any y.0 ones.1)))
    sorted other known names k s d seen same calls h plain is = absurd (not-fine wrong_kind 0 k h)

    -- .. so each of some that are of one kind
    all_sorted : (es : Tree) (known : Names) (names : List Name) (ks : List Kind) (item : Kind) (s : Sort) (d : ℕ) → AreSeen known names → known.funs ≡ funs → EachCall (HasRoutine funs fs) Q es → kinds es known ≡ Fine ks → AreAll item ks → IsPlain es
        → SortAt item s d → all_give s d fs names es ≡ true
    all_sorted tree.nil known names ks item s d seen same calls h all plain is = refl
    all_sorted (tree.cons e es) known names ks item s d seen same calls h all plain is =
        let k = split (kind e known) _ ks h in
        let more = split (kinds es known) _ ks k.2 in
        let each : AreAll item (k.0 ∷ more.0) = subst (AreAll item) (sym (fine-is (k.0 ∷ more.0) ks more.2)) all in
        and_true (gives_at s d fs names e) (all_give s d fs names es)
        (sorted e known names k.0 s d seen same calls.0 k.1 plain.0 (subst (λ j. SortAt j s d) (sym each.0) is))
        (all_sorted es known names more.0 item s d seen same calls.1 more.1 each.1 plain.1 is)
    all_sorted other known names ks item s d seen same calls h all plain is = absurd (not-fine wrong_kind 0 ks h)

    -- .. and each of arguments
    args_sorted : (es : Tree) (known : Names) (names : List Name) (formals : List Local) → AreSeen known names → known.funs ≡ funs → EachCall (HasRoutine funs fs) Q es → arguments_fit es formals known ≡ Fine true → Each IsFormal formals → IsPlain es
        → all_give sort.Any 0 fs names es ≡ true
    args_sorted tree.nil known names formals seen same calls h each plain = refl
    args_sorted (tree.cons e es) known names [] seen same calls h each plain =
        let x = split (kind e known) _ true h in
        let y = split (arguments_fit es [] known) _ true x.2 in
        let none : false ≡ true = fine-is false true y.2 in absurd (cc)
    args_sorted (tree.cons e es) known names (f ∷ formals) seen same calls h each plain =
        let x = split (kind e known) _ true h in
        let y = split (one_kind (kind_of_type f.shape) x.0 (begins e)) _ true x.2 in
        and_true (gives_at sort.Any 0 fs names e) (all_give sort.Any 0 fs names es)
        (sorted e known names x.0 sort.Any 0 seen same calls.0 x.1 plain.0 (one_any x.0 (formal_one f x.0 y.0 (begins e) each.0 y.1)))
        (args_sorted es known names formals seen same calls.1 y.2 each.1 plain.1)
    args_sorted other known names formals seen same calls h each plain = absurd (not-fine wrong_kind 0 true h)
