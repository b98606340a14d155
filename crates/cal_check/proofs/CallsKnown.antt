-- What has a kind calls only functions that are known.
use Rattle.std.proofs.Common.{◌≡◌, ℕ, ℤ, Bool, List, [], ◌∷◌, refl, sym, ap, ◌∙◌, Option, None, Some}
use Rattle.rvc_base.specs.Rules.{wrong_kind}
use Rattle.cal_ast.specs.Places.{begins}
use Rattle.cal_ast.specs.Tree as tree
use Rattle.cal_ast.specs.Tree.{Tree}
use Rattle.cal_model.specs.Value.{Kind, Shape, kind_of_type}
use Rattle.cal_model.specs.Actor.{Fun, Local}
use Rattle.cal_model.specs.Call.{fun_named}
use Rattle.cal_model.specs.Kinding.{Judged, Fine, Broken, Names, Argument, arguments_fit, constant_number, counter, counts, elements_in, is_word, kind, kinds, one_kind, type_arguments, type_judged, with_counters, with_known}
use Rattle.cal_model.specs.Sound.{AreLocals, Each, EachCall, StartCalls, StartHasKind, known_local}
use Rattle.cal_model.proofs.KindValues.{not-fine, split, tested}
use Rattle.cal_check.proofs.PlainTrees.{fun-called}

-- some function has the name
abbrev pub IsKnownFun : List Fun → List ℕ → Type 0
IsKnownFun funs name = (f : Fun) × (fun_named name funs ≡ Some f)

abbrev pub StartIs : (P Q : List ℕ → Type 0) → Option Tree → Type 0
StartIs P Q start = elim start [ None ↦ Unit {0} | Some e ↦ EachCall P Q e ]

-- a constant number has a kind
number-kind : (j : Judged Kind) (e : Tree) (names : Names) (z : ℤ) → constant_number j e names ≡ Fine z → (k : Kind) × (j ≡ Fine k)
number-kind (Fine k) e names z h = (k, refl)
number-kind (Broken rule at) e names z h = absurd (not-fine rule at z h)

counters-funs : (gens : Tree) (names : Names) → (with_counters gens names).funs ≡ names.funs
counters-funs (tree.cons (tree.gen shape (tree.ident name place) from to at) gens) names = counters-funs gens (with_known (counter name) names)
counters-funs other names = refl

module _ (Q : List ℕ → Type 0) (funs : List Fun) where
  mutual
    pub calls-known : (e : Tree) (names : Names) (k : Kind) → names.funs ≡ funs → kind e names ≡ Fine k → EachCall (IsKnownFun funs) Q e
    calls-known (tree.number n at) names k s h = tt
    calls-known (tree.truth b at) names k s h = tt
    calls-known (tree.variable name at) names k s h = tt
    calls-known (tree.call name args at) names k s h =
        let f = fun-called (fun_named name names.funs) args at names _ k h in
        ((f.0, ap (λ fs. fun_named name fs) (sym s) ∙ f.2), arguments-known args f.0.formals names f.1 s f.3)
    calls-known (tree.paren e at) names k s h = calls-known e names k s h
    calls-known (tree.if_expr test first other at) names k s h =
        let c = split (kind test names) _ k h in
        let t = split (kind first names) _ k c.2 in
        let u = split (kind other names) _ k t.2 in
        (calls-known test names c.0 s c.1, calls-known first names t.0 s t.1, calls-known other names u.0 s u.1)
    calls-known (tree.list items at) names k s h = let ks = split (kinds items names) _ k h in all-known items names ks.0 s ks.1
    calls-known (tree.comp item gens at) names k s h =
        let i = split (kind item (with_counters gens names)) _ k h in
        let n = split (elements_in gens names) _ k i.2 in
        (calls-known item (with_counters gens names) i.0 (counters-funs gens names ∙ s) i.1, gens-known gens names n.0 s n.1)
    calls-known (tree.index base place at) names k s h =
        let b = split (kind base names) _ k h in
        let p = split (kind place names) _ k b.2 in
        (calls-known base names b.0 s b.1, calls-known place names p.0 s p.1)
    calls-known (tree.prefix op e at) names k s h = let p = split (kind e names) _ k h in calls-known e names p.0 s p.1
    calls-known (tree.binary op l r at) names k s h =
        let p = split (kind l names) _ k h in
        let q = split (kind r names) _ k p.2 in
        (calls-known l names p.0 s p.1, calls-known r names q.0 s q.1)
    calls-known other names k s h = absurd (not-fine wrong_kind 0 k h)

    all-known : (es : Tree) (names : Names) (ks : List Kind) → names.funs ≡ funs → kinds es names ≡ Fine ks → EachCall (IsKnownFun funs) Q es
    all-known tree.nil names ks s h = tt
    all-known (tree.cons e es) names ks s h =
        let p = split (kind e names) _ ks h in
        let q = split (kinds es names) _ ks p.2 in
        (calls-known e names p.0 s p.1, all-known es names q.0 s q.1)
    all-known other names ks s h = absurd (not-fine wrong_kind 0 ks h)

    arguments-known : (args : Tree) (fs : List Local) (names : Names) (b : Bool) → names.funs ≡ funs → arguments_fit args fs names ≡ Fine b → EachCall (IsKnownFun funs) Q args
    arguments-known tree.nil fs names b s h = tt
    arguments-known (tree.cons e es) [] names b s h =
        let p = split (kind e names) _ b h in
        let q = split (arguments_fit es [] names) _ b p.2 in
        (calls-known e names p.0 s p.1, arguments-known es [] names q.0 s q.1)
    arguments-known (tree.cons e es) (f ∷ fs) names b s h =
        let p = split (kind e names) _ b h in
        let o = split (one_kind (kind_of_type f.shape) p.0 (begins e)) (λ l. arguments_fit es fs names) b p.2 in
        (calls-known e names p.0 s p.1, arguments-known es fs names b s o.2)
    arguments-known other fs names b s h = absurd (not-fine wrong_kind 0 b h)

    gens-known : (gens : Tree) (names : Names) (n : ℕ) → names.funs ≡ funs → elements_in gens names ≡ Fine n → EachCall (IsKnownFun funs) Q gens
    gens-known tree.nil names n s h = tt
    gens-known (tree.cons (tree.gen shape (tree.ident name place) from to at) gens) names n s h =
        let t = split (type_judged shape names) _ n h in
        let c = split (counts t.0 (begins shape)) _ n t.2 in
        let a = split (constant_number (kind from names) from names) _ n c.2 in
        let b = split (constant_number (kind to names) to names) _ n a.2 in
        let m = split (elements_in gens (with_known (counter name) names)) _ n b.2 in
        let ka = number-kind (kind from names) from names a.0 a.1 in
        let kb = number-kind (kind to names) to names b.0 b.1 in (
          (type-known shape names t.0 s t.1, calls-known from names ka.0 s ka.1, calls-known to names kb.0 s kb.1),
          gens-known gens (with_known (counter name) names) m.0 s m.1,
        )
    gens-known other names n s h = absurd (not-fine wrong_kind 0 n h)

    type-known : (shape : Tree) (names : Names) (t : Shape) → names.funs ≡ funs → type_judged shape names ≡ Fine t → EachCall (IsKnownFun funs) Q shape
    type-known (tree.type_of (tree.ident name place) args at) names t s h =
        let w = tested (is_word name) _ _ place t h in
        let g = split (type_arguments args names) _ t w.1 in
        type-arguments-known args names g.0 s g.1
    type-known other names t s h = absurd (not-fine wrong_kind 0 t h)

    type-arguments-known : (args : Tree) (names : Names) (g : List Argument) → names.funs ≡ funs → type_arguments args names ≡ Fine g → EachCall (IsKnownFun funs) Q args
    type-arguments-known tree.nil names g s h = tt
    type-arguments-known (tree.cons (tree.shape_arg (tree.ident name place) shape) args) names g s h =
        let t = split (type_judged shape names) _ g h in
        let others = split (type_arguments args names) _ g t.2 in
        (type-known shape names t.0 s t.1, type-arguments-known args names others.0 s others.1)
    type-arguments-known (tree.cons (tree.value_arg (tree.ident name place) value) args) names g s h =
        let z = split (constant_number (kind value names) value names) _ g h in
        let others = split (type_arguments args names) _ g z.2 in
        let k = number-kind (kind value names) value names z.0 z.1 in
        (calls-known value names k.0 s k.1, type-arguments-known args names others.0 s others.1)
    type-arguments-known other names g s h = absurd (not-fine wrong_kind 0 g h)

  start-known : (k : Kind) (start : Option Tree) (names : Names) → names.funs ≡ funs → StartHasKind k start names → StartIs (IsKnownFun funs) Q start
  start-known k None names s h = tt
  start-known k (Some e) names s h = calls-known e names k s h.0

  pub locals-known : (xs : List Local) (names : Names) → names.funs ≡ funs → AreLocals xs names → Each (StartCalls (IsKnownFun funs) Q) xs
  locals-known [] names s h = tt
  locals-known (x ∷ xs) names s h = (start-known (kind_of_type x.shape) x.start names s h.1, locals-known xs (with_known (known_local x) names) s h.2)

-- ---- two facts of each call

module _ (A B C Q : List ℕ → Type 0) (f : (name : List ℕ) → A name → B name → C name) where
  -- each call of a function has both, and so it has the third
  pub calls-both : (e : Tree) → EachCall A Q e → EachCall B Q e → EachCall C Q e
  calls-both (tree.cons t ts) h i = (calls-both t h.0 i.0, calls-both ts h.1 i.1)
  calls-both (tree.present t) h i = calls-both t h i
  calls-both (tree.call name args at) h i = (f name h.0 i.0, calls-both args h.1 i.1)
  calls-both (tree.paren e at) h i = calls-both e h i
  calls-both (tree.if_expr test first other at) h i = (calls-both test h.0 i.0, calls-both first h.1 i.1, calls-both other h.2 i.2)
  calls-both (tree.list items at) h i = calls-both items h i
  calls-both (tree.comp item gens at) h i = (calls-both item h.0 i.0, calls-both gens h.1 i.1)
  calls-both (tree.gen shape name from to at) h i = (calls-both shape h.0 i.0, calls-both from h.1 i.1, calls-both to h.2 i.2)
  calls-both (tree.index base place at) h i = (calls-both base h.0 i.0, calls-both place h.1 i.1)
  calls-both (tree.prefix op e at) h i = calls-both e h i
  calls-both (tree.binary op l r at) h i = (calls-both l h.0 i.0, calls-both r h.1 i.1)
  calls-both (tree.type_of name args at) h i = calls-both args h i
  calls-both (tree.shape_arg name shape) h i = calls-both shape h i
  calls-both (tree.value_arg name value) h i = calls-both value h i
  calls-both (tree.assign name places value at) h i = (calls-both places h.0 i.0, calls-both value h.1 i.1)
  calls-both (tree.call_stmt (tree.ident name place) args at) h i = (h.0, calls-both args h.1 i.1)
  calls-both (tree.if_stmt test first other at) h i = (calls-both test h.0 i.0, calls-both first h.1 i.1, calls-both other h.2 i.2)
  calls-both (tree.while_stmt test body at) h i = (calls-both test h.0 i.0, calls-both body h.1 i.1)
  calls-both (tree.foreach_stmt shape name from to body at) h i = (calls-both shape h.0 i.0, calls-both from h.1 i.1, calls-both to h.2 i.2, calls-both body h.3 i.3)
  calls-both (tree.block vars body at) h i = (calls-both vars h.0 i.0, calls-both body h.1 i.1)
  calls-both (tree.var shape name start changes at) h i = (calls-both shape h.0 i.0, calls-both start h.1 i.1)
  calls-both other h i = tt

  start-both : (start : Option Tree) → StartIs A Q start → StartIs B Q start → StartIs C Q start
  start-both None h i = tt
  start-both (Some e) h i = calls-both e h i

  pub locals-both : (xs : List Local) → Each (StartCalls A Q) xs → Each (StartCalls B Q) xs → Each (StartCalls C Q) xs
  locals-both [] h i = tt
  locals-both (x ∷ xs) h i = (start-both x.start h.0 i.0, locals-both xs h.1 i.1)
