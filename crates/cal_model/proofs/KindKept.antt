-- Evaluation of an expression that has a kind gives a value of that kind, or a trap.
use Rattle.std.proofs.Common.{◌≡◌, ℕ, ◌*◌, ◌≤◌, ℤ, pos, true, false, List, [], ◌∷◌, refl, sym, ap, subst, ◌∙◌, arith, Option, None, Some}
use Rattle.rvc_base.specs.declared.scalar.Scalar.TheVariants as scalar
use Rattle.rvc_base.specs.Storing.{conv}
use Rattle.rvc_base.specs.Turns.{max_turns}
use Rattle.rvc_base.specs.Rules.{constant_traps, not_constant, unknown_name, wrong_kind}
use Rattle.cal_ast.specs.Places.{begins}
use Rattle.cal_ast.specs.Tree as tree
use Rattle.cal_ast.specs.Tree.{Tree}
use Rattle.cal_model.specs.Value.{Kind, NumKind, BoolKind, ListKind, Shape, Single, Many, Value, Num, Truth, Items, Nil, Cons, kind_of_type, kind_of_scalar, stored, HasKind, IsType}
use Rattle.cal_model.specs.Outcome.{Out, Gives, Traps, Lacks, Clashes, alone, needed, known}
use Rattle.cal_model.specs.Env.{Env, look_up, variable, with_local}
use Rattle.cal_model.specs.Expression.{Calls, Given, eval, eval_all, elements, type_meant, args_given, span, each_from, type_named, size_of_value}
use Rattle.cal_model.specs.Actor.{Local, Fun}
use Rattle.cal_model.specs.Call.{fun_named}
use Rattle.cal_model.specs.Kinding.{Judged, Fine, Broken, Known, Names, meant_by, with_known, counter, constant_calls, constant, number_given, constant_number, one_kind, Argument, OfShape, OfSize, counts, with_counters, is_word, kind, kinds, arguments_fit, elements_in, type_judged, type_arguments}
use Rattle.cal_model.specs.Sound.{EachCall}
use Rattle.cal_model.specs.Keeping.{StandsFor, AreOfKinds, AreMany, AreArguments, given_by}
use Rattle.cal_model.proofs.Agreement.{any_name, any-call, Agree, eval-agrees}
use Rattle.cal_model.proofs.KindValues.{not-fine, fine-is, split, tested, one-kind, list-of-kind, list-has-kind, single-is-num}
use Rattle.cal_model.proofs.Stored.{conv-in-range}
use Rattle.cal_model.proofs.KindTypes.{AreTypesIn, type-meant}
use Rattle.cal_model.proofs.KindOperators.{Comes, comes-then, comes-turn, comes-as, whole-comes, prefixed-comes, right-comes, chosen-comes, indexed-comes, range-comes, each-comes, branch-kind}
use Rattle.cal_model.proofs.KindNames.{Found, Fits, fits-local, alike-constants, constant_env}

-- ---- names and calls

known-kind : (o : Option Known) (j : Kind) (at : ℕ) → elim o [ None ↦ Broken unknown_name at | Some x ↦ Fine x.kind ] ≡ Fine j → (x : Known) × (o ≡ Some x) × (x.kind ≡ j)
known-kind None j at h = absurd (not-fine unknown_name at j h)
known-kind (Some x) j at h = (x, refl, fine-is x.kind j h)

found-comes : (L : Type 0) (x : Known) (o : Option Value) (left : ℕ) → Found L x o → Comes L (HasKind x.kind) left (known o left)
found-comes L x None left h = h
found-comes L x (Some v) left h = (h.kind, let e : left ≤ left = omega arith in e)

called : (o : Option Fun) (f : Fun → Judged Kind) (j : Kind) (at : ℕ) → elim o [ None ↦ Broken unknown_name at | Some x ↦ f x ] ≡ Fine j → (x : Fun) × (o ≡ Some x) × (f x ≡ Fine j)
called None f j at h = absurd (not-fine unknown_name at j h)
called (Some x) f j at h = (x, refl, h)

-- ---- constants in types and generators

abbrev with_items : Shape → Given → Given
with_items t given = record given { items = Some t }

abbrev with_size : Value → Given → Given
with_size v given = record given { size = size_of_value v }

-- a number is constant only if it has this kind and is given over the constants
number-parts : (o : Judged Kind) (e : Tree) (names : Names) (a : ℤ) → constant_number o e names ≡ Fine a → (o ≡ Fine NumKind) × (number_given (constant e names) (begins e) ≡ Fine a)
number-parts (Fine NumKind) e names a h = (refl, h)
number-parts (Fine BoolKind) e names a h = absurd (not-fine wrong_kind (begins e) a h)
number-parts (Fine (ListKind n k)) e names a h = absurd (not-fine wrong_kind (begins e) a h)
number-parts (Broken rule at) e names a h = absurd (not-fine rule at a h)

given-parts : (o : Out Value) (at : ℕ) (a : ℤ) → number_given o at ≡ Fine a → (m : ℕ) × (o ≡ Gives (Num a) m)
given-parts (Gives (Num z) m) at a h = (m, ap (λ b. Gives (Num b) m) (fine-is z a h))
given-parts (Gives (Truth b) m) at a h = absurd (not-fine not_constant at a h)
given-parts (Gives (Items vs) m) at a h = absurd (not-fine not_constant at a h)
given-parts (Traps c) at a h = absurd (not-fine constant_traps at a h)
given-parts Lacks at a h = absurd (not-fine not_constant at a h)
given-parts Clashes at a h = absurd (not-fine not_constant at a h)

gives-same : (v w : Value) (k m : ℕ) → Gives v k ≡ Gives w m → w ≡ v
gives-same v w k m h = cc

-- what is given over the constants is given, unless a name is lacked
number-comes : (L : Type 0) (o p : Out Value) (a : ℤ) (m most left : ℕ) → o ≡ Gives (Num a) m → Agree (Unit {0}) o p → Comes L (HasKind NumKind) most p
    → Comes L (λ v. v ≡ Num a) left (alone p left)
number-comes L o p a m most left e h c = go p (subst (λ q. Agree (Unit {0}) q p) e h) c
  where
    go : (q : Out Value) → Agree (Unit {0}) (Gives (Num a) m) q → Comes L (HasKind NumKind) most q → Comes L (λ v. v ≡ Num a) left (alone q left)
    go (Gives w k) f d = (gives-same (Num a) w m k f, let s : left ≤ left = omega arith in s)
    go (Traps t) f d = absurd f
    go Lacks f d = d
    go Clashes f d = absurd d

needed-comes : (L : Type 0) (o : Option Shape) (t : Shape) (left : ℕ) → (o ≡ Some t) × IsType t → Comes L (λ u. (u ≡ t) × IsType t) left (needed o left)
needed-comes L o t left h = subst (λ p. Comes L (λ u. (u ≡ t) × IsType t) left (needed p left)) (sym h.0) ((refl, h.1), let s : left ≤ left = omega arith in s)

counter-kind : (t s : Shape) (at : ℕ) (i : ℤ) → IsType t → counts t at ≡ Fine s → HasKind NumKind (stored t (Num i))
counter-kind (Single scalar.Bool) s at i h c = absurd (not-fine wrong_kind at s c)
counter-kind (Single (scalar.Int n)) s at i h c = single-is-num (scalar.Int n) (conv (scalar.Int n) i) h (conv-in-range (scalar.Int n) i h)
counter-kind (Single (scalar.Uint n)) s at i h c = single-is-num (scalar.Uint n) (conv (scalar.Uint n) i) h (conv-in-range (scalar.Uint n) i h)
counter-kind (Many n t) s at i h c = absurd (not-fine wrong_kind at s c)

no-value : (w : Value) → None ≡ Some w → ⊥
no-value w h = cc

-- the value of a generator's or a loop's variable is one that may stand there
pub counter-stands : (name : List ℕ) (t u s : Shape) (at : ℕ) (i : ℤ) → u ≡ t → IsType t → counts t at ≡ Fine s → StandsFor (counter name) (stored u (Num i))
counter-stands name t u s at i e h c = record {
  kind = subst (λ x. HasKind NumKind (stored x (Num i))) (sym e) (counter-kind t s at i h c);
  constant = λ w o. absurd (no-value w o);
}

module _ (L : Type 0) (P Q : List ℕ → Type 0) (calls : Calls) where
  -- a number that is constant
  number-kept : (e : Tree) (names : Names) (env : Env) (left : ℕ) (a : ℤ) → Fits L P calls names env → constant_number (kind e names) e names ≡ Fine a
      → (kind e names ≡ Fine NumKind → Comes L (HasKind NumKind) max_turns (eval e calls env max_turns)) → Comes L (λ v. v ≡ Num a) left (alone (eval e calls env max_turns) left)
  number-kept e names env left a fit h ih =
      let parts = number-parts (kind e names) e names a h in
      let gives = given-parts (constant e names) (begins e) a parts.1 in
      number-comes L (constant e names) (eval e calls env max_turns) a gives.0 max_turns left gives.1
      (eval-agrees (Unit {0}) any_name any_name (constant_calls names) calls e (constant_env names) env max_turns (alike-constants L P calls names env fit) (any-call e)) (ih parts.0)

  mutual
    pub kept : (e : Tree) (names : Names) (env : Env) (left : ℕ) (j : Kind) → Fits L P calls names env → EachCall P Q e → kind e names ≡ Fine j
        → Comes L (HasKind j) left (eval e calls env left)
    kept (tree.number n at) names env left j fit c h = subst (λ l. Comes L (HasKind l) left (eval (tree.number n at) calls env left)) (fine-is NumKind j h) (whole-comes L (pos n) left)
    kept (tree.truth b at) names env left j fit c h = subst (λ l. Comes L (HasKind l) left (eval (tree.truth b at) calls env left)) (fine-is BoolKind j h) (tt, let s : left ≤ left = omega arith in s)
    kept (tree.variable name at) names env left j fit c h =
        let i = known-kind (meant_by name names) j at h in
        subst (λ l. Comes L (HasKind l) left (known (look_up name env) left)) i.2 (found-comes L i.0 (look_up name env) left (fit.all name i.0 i.1))
    kept (tree.call name args at) names env left j fit c h =
        let f = called (fun_named name names.funs) _ j at h in
        let i = split (arguments_fit args f.0.formals names) _ j f.2 in
        let b = tested i.0 (Fine (kind_of_scalar f.0.result)) _ at j i.2 in
        comes-then L (AreArguments f.0.formals) (HasKind j) (eval_all args calls env left) _ left (arguments-kept args names env left f.0.formals fit c.1 (i.1 ∙ ap Fine b.0)) (λ vs m p.
        comes-turn L (HasKind j) m _ (λ k. subst (λ l. Comes L (HasKind l) k (calls env.globals name vs k)) (fine-is (kind_of_scalar f.0.result) j b.1) (fit.give name f.0 vs k c.0 f.1 p)))
    kept (tree.paren e at) names env left j fit c h = kept e names env left j fit c h
    kept (tree.if_expr test first other at) names env left j fit c h =
        let x = split (kind test names) _ j h in
        let y = split (kind first names) _ j x.2 in
        let z = split (kind other names) _ j y.2 in
        let b = branch-kind x.0 y.0 z.0 j at z.2 in
        comes-then L (HasKind x.0) (HasKind j) (eval test calls env left) _ left (kept test names env left x.0 fit c.0 x.1) (λ v m p.
        chosen-comes L j v _ _ m (subst (λ l. HasKind l v) b.0 p)
        (λ n. kept first names env n j fit c.1 (y.1 ∙ ap Fine b.1)) (λ n. kept other names env n j fit c.2 (z.1 ∙ ap Fine b.2)))
    kept (tree.list items at) names env left j fit c h =
        let i = split (kinds items names) _ j h in
        comes-then L (AreOfKinds i.0) (HasKind j) (eval_all items calls env left) _ left (all-kept items names env left i.0 fit c i.1) (λ vs m p.
        (list-has-kind i.0 j at vs i.2 p, let s : m ≤ m = omega arith in s))
    kept (tree.comp item gens at) names env left j fit c h =
        let i = split (kind item (with_counters gens names)) _ j h in
        let n = split (elements_in gens names) _ j i.2 in
        comes-then L (AreMany n.0 i.0) (HasKind j) (elements gens (λ inner k. eval item calls inner k) calls env left) _ left
        (elements-kept gens names env left n.0 i.0 (λ inner k. eval item calls inner k) fit c.1 n.1 (λ inner k inside. kept item (with_counters gens names) inner k i.0 inside c.0 i.1)) (λ vs m p.
        (subst (λ l. HasKind l (Items vs)) (list-of-kind n.0 i.0 j at n.2) p, let s : m ≤ m = omega arith in s))
    kept (tree.index base place at) names env left j fit c h =
        let x = split (kind base names) _ j h in
        let y = split (kind place names) _ j x.2 in
        comes-then L (HasKind x.0) (HasKind j) (eval base calls env left) _ left (kept base names env left x.0 fit c.0 x.1) (λ v m p.
        comes-then L (HasKind y.0) (HasKind j) (eval place calls env m) _ m (kept place names env m y.0 fit c.1 y.1) (λ w k q.
        indexed-comes L x.0 y.0 j at v w k y.2 p q))
    kept (tree.prefix op e at) names env left j fit c h =
        let x = split (kind e names) _ j h in
        comes-then L (HasKind x.0) (HasKind j) (eval e calls env left) _ left (kept e names env left x.0 fit c x.1) (λ v m p. prefixed-comes L op x.0 j at v m x.2 p)
    kept (tree.binary op l r at) names env left j fit c h =
        let x = split (kind l names) _ j h in
        let y = split (kind r names) _ j x.2 in
        comes-then L (HasKind x.0) (HasKind j) (eval l calls env left) _ left (kept l names env left x.0 fit c.0 x.1) (λ v m p.
        right-comes L op x.0 y.0 j at v _ m y.2 p (λ n. kept r names env n y.0 fit c.1 y.1))
    kept other names env left j fit c h = absurd (not-fine wrong_kind 0 j h)

    pub all-kept : (es : Tree) (names : Names) (env : Env) (left : ℕ) (ks : List Kind) → Fits L P calls names env → EachCall P Q es → kinds es names ≡ Fine ks
        → Comes L (AreOfKinds ks) left (eval_all es calls env left)
    all-kept tree.nil names env left ks fit c h = (subst (λ l. AreOfKinds l Nil) (fine-is [] ks h) tt, let s : left ≤ left = omega arith in s)
    all-kept (tree.cons e es) names env left ks fit c h =
        let x = split (kind e names) _ ks h in
        let y = split (kinds es names) _ ks x.2 in
        comes-then L (HasKind x.0) (AreOfKinds ks) (eval e calls env left) _ left (kept e names env left x.0 fit c.0 x.1) (λ v m p.
        comes-then L (AreOfKinds y.0) (AreOfKinds ks) (eval_all es calls env m) _ m (all-kept es names env m y.0 fit c.1 y.1) (λ vs k q.
        (subst (λ l. AreOfKinds l (Cons v vs)) (fine-is (x.0 ∷ y.0) ks y.2) (p, q), let s : k ≤ k = omega arith in s)))
    all-kept other names env left ks fit c h = absurd (not-fine wrong_kind 0 ks h)

    pub arguments-kept : (es : Tree) (names : Names) (env : Env) (left : ℕ) (fs : List Local) → Fits L P calls names env → EachCall P Q es → arguments_fit es fs names ≡ Fine true
        → Comes L (AreArguments fs) left (eval_all es calls env left)
    arguments-kept tree.nil names env left [] fit c h = (tt, let s : left ≤ left = omega arith in s)
    arguments-kept tree.nil names env left (f ∷ fs) fit c h = let e : false ≡ true = fine-is false true h in absurd (grind arith)
    arguments-kept (tree.cons e es) names env left [] fit c h =
        let x = split (kind e names) _ true h in
        let y = split (arguments_fit es [] names) _ true x.2 in
        let e : false ≡ true = fine-is false true y.2 in absurd (grind arith)
    arguments-kept (tree.cons e es) names env left (f ∷ fs) fit c h =
        let x = split (kind e names) _ true h in
        let y = split (one_kind (kind_of_type f.shape) x.0 (begins e)) _ true x.2 in
        let same = one-kind (kind_of_type f.shape) x.0 y.0 (begins e) y.1 in
        comes-then L (HasKind x.0) (AreArguments (f ∷ fs)) (eval e calls env left) _ left (kept e names env left x.0 fit c.0 x.1) (λ v m p.
        comes-then L (AreArguments fs) (AreArguments (f ∷ fs)) (eval_all es calls env m) _ m (arguments-kept es names env m fs fit c.1 y.2) (λ vs k q.
        ((subst (λ l. HasKind l v) (sym same.0) p, q), let s : k ≤ k = omega arith in s)))
    arguments-kept other names env left fs fit c h = absurd (not-fine wrong_kind 0 true h)

    pub elements-kept : (gens : Tree) (names : Names) (env : Env) (left : ℕ) (n : ℕ) (k : Kind) (item : Env → ℕ → Out Value) → Fits L P calls names env → EachCall P Q gens → elements_in gens names ≡ Fine n
        → ((inner : Env) (m : ℕ) → Fits L P calls (with_counters gens names) inner → Comes L (HasKind k) m (item inner m))
        → Comes L (AreMany n k) left (elements gens item calls env left)
    elements-kept tree.nil names env left n k item fit c h i =
        comes-turn L (AreMany n k) left _ (λ m.
        comes-then L (HasKind k) (AreMany n k) (item env m) _ m (i env m fit) (λ v l p.
        ((fine-is 1 n h, (p, tt)), let s : l ≤ l = omega arith in s)))
    elements-kept (tree.cons (tree.gen shape (tree.ident name place) from to at) gens) names env left n k item fit c h i =
        let t = split (type_judged shape names) _ n h in
        let s = split (counts t.0 (begins shape)) _ n t.2 in
        let a = split (constant_number (kind from names) from names) _ n s.2 in
        let b = split (constant_number (kind to names) to names) _ n a.2 in
        let rest = split (elements_in gens (with_known (counter name) names)) _ n b.2 in
        comes-then L (λ u. (u ≡ t.0) × IsType t.0) (AreMany n k) (type_meant shape calls env left) _ left (type-kept shape names env left t.0 fit c.0.0 t.1) (λ u m p.
        comes-then L (λ v. v ≡ Num a.0) (AreMany n k) (alone (eval from calls env max_turns) m) _ m (number-kept from names env m a.0 fit a.1 (λ num. kept from names env max_turns NumKind fit c.0.1 num)) (λ v l q.
        comes-then L (λ v. v ≡ Num b.0) (AreMany n k) (alone (eval to calls env max_turns) l) _ l (number-kept to names env l b.0 fit b.1 (λ num. kept to names env max_turns NumKind fit c.0.2 num)) (λ w r o.
        range-comes L (AreMany n k) v w a.0 b.0 _ r q o
        (comes-as L (AreMany (span a.0 b.0 * rest.0) k) (AreMany n k) (each_from (span a.0 b.0) a.0 (λ x y. elements gens item calls (with_local (variable name u false (stored u (Num x))) env) y) r) r (λ vs x. (x.0 ∙ fine-is (span a.0 b.0 * rest.0) n rest.2, x.1))
        (each-comes L k (span a.0 b.0) rest.0 a.0 _ r (λ x y.
        elements-kept gens (with_known (counter name) names) (with_local (variable name u false (stored u (Num x))) env) y rest.0 k item
        (fits-local L P calls names env (counter name) (variable name u false (stored u (Num x))) refl (counter-stands name t.0 u s.0 (begins shape) x p.0 p.1 s.1) fit) c.1 rest.1 i))))))
    elements-kept other names env left n k item fit c h i = absurd (not-fine wrong_kind 0 n h)

    pub type-kept : (shape : Tree) (names : Names) (env : Env) (left : ℕ) (t : Shape) → Fits L P calls names env → EachCall P Q shape → type_judged shape names ≡ Fine t
        → Comes L (λ u. (u ≡ t) × IsType t) left (type_meant shape calls env left)
    type-kept (tree.type_of (tree.ident name place) args at) names env left t fit c h =
        let w = tested (is_word name) _ _ place t h in
        let g = split (type_arguments args names) _ t w.1 in
        comes-then L (λ given. (given ≡ given_by g.0) × AreTypesIn g.0) (λ u. (u ≡ t) × IsType t) (args_given args calls env left) _ left (args-kept args names env left g.0 fit c g.1) (λ given m p.
        subst (λ x. Comes L (λ u. (u ≡ t) × IsType t) m (needed (type_named name x) m)) (sym p.0) (needed-comes L (type_named name (given_by g.0)) t m (type-meant name g.0 at t g.2 p.1)))
    type-kept other names env left t fit c h = absurd (not-fine wrong_kind 0 t h)

    pub args-kept : (args : Tree) (names : Names) (env : Env) (left : ℕ) (g : List Argument) → Fits L P calls names env → EachCall P Q args → type_arguments args names ≡ Fine g
        → Comes L (λ given. (given ≡ given_by g) × AreTypesIn g) left (args_given args calls env left)
    args-kept tree.nil names env left g fit c h = (subst (λ x. (given_by [] ≡ given_by x) × AreTypesIn x) (fine-is [] g h) (refl, tt), let s : left ≤ left = omega arith in s)
    args-kept (tree.cons (tree.shape_arg (tree.ident name place) shape) args) names env left g fit c h =
        let t = split (type_judged shape names) _ g h in
        let others = split (type_arguments args names) _ g t.2 in
        comes-then L (λ u. (u ≡ t.0) × IsType t.0) (λ given. (given ≡ given_by g) × AreTypesIn g) (type_meant shape calls env left) _ left (type-kept shape names env left t.0 fit c.0 t.1) (λ u m p.
        comes-then L (λ given. (given ≡ given_by others.0) × AreTypesIn others.0) (λ given. (given ≡ given_by g) × AreTypesIn g) (args_given args calls env m) _ m (args-kept args names env m others.0 fit c.1 others.1) (λ given k q. (
          subst (λ x. (record given { items = Some u } ≡ given_by x) × AreTypesIn x) (fine-is (OfShape name t.0 ∷ others.0) g others.2)
              (ap (λ x. with_items x given) p.0 ∙ ap (with_items t.0) q.0, (p.1, q.1)),
          let s : k ≤ k = omega arith in s,
        )))
    args-kept (tree.cons (tree.value_arg (tree.ident name place) value) args) names env left g fit c h =
        let z = split (constant_number (kind value names) value names) _ g h in
        let others = split (type_arguments args names) _ g z.2 in
        comes-then L (λ v. v ≡ Num z.0) (λ given. (given ≡ given_by g) × AreTypesIn g) (alone (eval value calls env max_turns) left) _ left (number-kept value names env left z.0 fit z.1 (λ num. kept value names env max_turns NumKind fit c.0 num)) (λ v m p.
        comes-then L (λ given. (given ≡ given_by others.0) × AreTypesIn others.0) (λ given. (given ≡ given_by g) × AreTypesIn g) (args_given args calls env m) _ m (args-kept args names env m others.0 fit c.1 others.1) (λ given k q. (
          subst (λ x. (record given { size = size_of_value v } ≡ given_by x) × AreTypesIn x) (fine-is (OfSize name z.0 ∷ others.0) g others.2)
              (ap (λ v. with_size v given) p ∙ ap (with_size (Num z.0)) q.0, q.1),
          let s : k ≤ k = omega arith in s,
        )))
    args-kept other names env left g fit c h = absurd (not-fine wrong_kind 0 g h)
