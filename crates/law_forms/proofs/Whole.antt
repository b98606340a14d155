-- Nothing is left out of an expression that has a kind.
use Rattle.std.proofs.Common.{◌≡◌, ℕ, Bool, true, false, not, List, [], ◌∷◌, length, refl, sym, ap, ◌∙◌, subst, Option, None, Some, arith}
use Rattle.std.specs.Prelude.{◌&&◌, if◌then◌else◌, nat_eq}
use Rattle.std.proofs.lemmas.Bool.Decides.{nat_tests}
use Rattle.rvc_base.specs.declared.scalar.Scalar.{Scalar}
use Rattle.rvc_base.specs.declared.scalar.Scalar.TheVariants as scalar
use Rattle.rvc_base.specs.Rules.{wrong_kind}
use Rattle.cal_ast.specs.Places.{begins}
use Rattle.cal_ast.specs.Tree as tree
use Rattle.cal_ast.specs.Tree.{Tree}
use Rattle.cal_model.specs.Value.{Kind, NumKind, BoolKind, ListKind, Shape, Single, Many, kind_of_type, scalars_of_kind}
use Rattle.cal_model.specs.Actor.{Fun, Local}
use Rattle.cal_model.specs.Kinding.{Fine, Known, Names, arguments_fit, elements_in, kind, kinds, meant_by, one_kind, with_counters}
use Rattle.cal_model.specs.Sound.{AreAll, Each, EachCall, IsFormal, IsPlain}
use Rattle.cal_model.proofs.KindValues.{fine-is, list-of-kind, not-fine, split}
use Rattle.lower_base.specs.declared.names.ItemList.{ItemList}
use Rattle.lower_base.specs.declared.sorts.Sort.TheVariants as sort
use Rattle.lower_base.specs.Callees.{Function, function_for}
use Rattle.lower_base.specs.Generators.{made_by, makes_none}
use Rattle.lower_base.specs.Growing.{◌or_else◌, first_cell, is_short, left_out_apart, left_out_args, left_out_element, left_out_fill, left_out_fills, left_out_gens, left_out_made, left_out_many, left_out_name, left_out_named, left_out_places, one}
use Rattle.lower_base.specs.ItemsSeen.{items_seen}
use Rattle.lower_base.specs.Listed.{list_named}
use Rattle.lower_base.specs.Names.{Name}
use Rattle.lower_base.specs.Parted.{Part, alike, deep_named, number_of, part_named, sized}
use Rattle.lower_base.specs.Truths.{is_truth}
use Rattle.law_forms.specs.Lowerable.{AreSeen, HasRoutine, IsLike, IsSeen}
use Rattle.law_forms.proofs.ItemsAre.{HasItems, items_are, kinds_count}
use Rattle.law_forms.proofs.Like.{IsOne, both_alike, like_kind, like_one, list_few, one_like, one_scalar, sized_like, where_none}
use Rattle.law_forms.proofs.Made.{IsInside, inside_gens, made_by_is, made_seen}
use Rattle.law_forms.proofs.Ones.{IsItem, IsListed, binary_one, branch_parts, item_parts, known_kind, listed_kinds, not_both, prefix_one, short_left}
use Rattle.law_forms.proofs.Parts.{IsPartMeant, part_meant}
use Rattle.law_forms.proofs.SeenNames.{IsListKind, funs_counters, known_within, lists_seen, whole_seen}
use Rattle.law_forms.proofs.Sorts.{IsCalled, SortAt, formal_one, is_called, sorted}
use Rattle.law_forms.proofs.Within.{within}

-- ---- of parts

neither : (x y : Option ℕ) → x ≡ None → y ≡ None → x or_else y ≡ None
neither x y e f = ap (λ o. o or_else y) e ∙ f

single_name : (s : Scalar) (u : Shape) (at : ℕ) (k : Kind) → kind_of_type u ≡ k → IsLike (Single s) k → ◌≡◌ {A = Option ℕ} (elim u [ Single t ↦ None | Many n items ↦ Some at ]) None
single_name s (Single t) at k e like = refl
single_name s (Many n items) at k e like = absurd (subst (IsLike (Single s)) (sym e) like)

list_kind_of : (n : ℕ) (items : Shape) (k : Kind) → IsLike (Many n items) k → IsListKind k
list_kind_of n items NumKind h = h
list_kind_of n items BoolKind h = h
list_kind_of n items (ListKind m k) h = tt

-- a name of the kind that is meant
name_left : (t : Shape) (names : List Name) (text : List ℕ) (at : ℕ) (x : Known) (k : Kind) → IsSeen names text x → x.kind ≡ k → IsLike t k → left_out_named names t text at ≡ None
name_left (Single s) names text at x k seen e like =
    ap (λ o. left_out_name o at) seen.is ∙ single_name s seen.name.shape at k (seen.kind ∙ e) like
name_left (Many n items) names text at x k seen e like =
    let list : IsListKind x.kind = subst IsListKind (sym e) (list_kind_of n items k like) in
    ap (λ (o : Option Part). elim o [ None ↦ Some at | Some p ↦ if alike (Many n items) p.shape then None else Some at ]) (whole_seen names text at x seen list)
    ∙ ap (λ b. if b then None else Some at) (both_alike (Many n items) seen.name.shape k like (like_kind seen.name.shape k (seen.kind ∙ e)))

-- as many items as are meant
many_left : (t : Shape) (at n : ℕ) (k : Kind) (o : Option ℕ) (f : Shape → Option ℕ) → IsLike t (ListKind n k) → o ≡ Some n → ((items : Shape) → IsLike items k → f items ≡ None) → left_out_many t at o f ≡ None
many_left (Single s) at n k o f like e g = absurd like
many_left (Many m items) at n k o f like e g =
    let size : m ≡ n = like.0 in
    let test : nat_eq n m ≡ true = grind (arith, nat_tests, size) in
    ap (λ x. left_out_many (Many m items) at x f) e ∙ ap (λ b. if b then f items else Some at) test ∙ g items like.1

element_left : (items : Shape) (k : Kind) (value list : Option ℕ) → IsLike items k → (IsLike one k → value ≡ None) → list ≡ None → left_out_element items value list ≡ None
element_left (Single s) k value list like f g = f (one_like scalar.Bool k (like_one s k like))
element_left (Many n items) k value list like f g = g

apart_left : (o : Option ℕ) (n size at : ℕ) (t : Shape) (list : Shape → Option ℕ) (place : Option ℕ) → o ≡ Some n → sized (Many n t) ≡ Some size → list (Many n t) ≡ None → place ≡ None → left_out_apart o t at list place ≡ None
apart_left o n size at t list place e s f g =
    ap (λ x. left_out_apart x t at list place) e
    ∙ ap (λ (x : Option ℕ). elim x [ None ↦ Some at | Some z ↦ list (Many n t) or_else place ]) s
    ∙ neither (list (Many n t)) place f g

-- an index where a single value is meant
single_index : (l d : Option ItemList) (x y z : Option ℕ) → x ≡ None → y ≡ None → z ≡ None → ◌≡◌ {A = Option ℕ} (elim l [ Some a ↦ x | None ↦ elim d [ Some a ↦ y | None ↦ z ] ]) None
single_index (Some a) d x y z e f g = e
single_index None (Some a) x y z e f g = f
single_index None None x y z e f g = g

-- .. or a list
list_index : (o : Option Part) (t : Shape) (at : ℕ) (y z : Option ℕ) → ((p : Part) → o ≡ Some p → IsPartMeant p t) → y ≡ None → z ≡ None
    → ◌≡◌ {A = Option ℕ} (elim o [ Some p ↦ if alike t p.shape then elim (first_cell p.seat) [ None ↦ Some at | Some c ↦ y ] else Some at | None ↦ z ]) None
list_index None t at y z meant e f = f
list_index (Some p) t at y z meant e f =
    let m : IsPartMeant p t = meant p refl in
    ap (λ b. if b then elim (first_cell p.seat) [ None ↦ Some at | Some c ↦ y ] else Some at) m.like
    ∙ ap (λ (x : Option ℕ). elim x [ None ↦ Some at | Some c ↦ y ]) m.first ∙ e

-- the elements that generators make
made_left : (gens : Tree) (known : Names) (names : List Name) (n : ℕ) (inside : List Name → Option ℕ) → AreSeen known names → IsPlain gens → elements_in gens known ≡ Fine n
    → ((inner : List Name) → AreSeen (with_counters gens known) inner → inside inner ≡ None) → left_out_made names gens inside ≡ None
made_left gens known names n inside seen plain h f = go (makes_none gens) refl
  where
    go : (b : Bool) → makes_none gens ≡ b → left_out_made names gens inside ≡ None
    go true e = ap (λ b. if b then None else left_out_gens names gens inside) e
    go false e =
        let i : IsInside gens known names = inside_gens gens known names n plain h e seen in
        ap (λ b. if b then None else left_out_gens names gens inside) e ∙ i.left inside ∙ f i.inner i.seen

-- ---- expressions

module _ (funs : List Fun) (fs : List Function) (Q : List ℕ → Type 0) where
  mutual
    -- nothing is left out of an expression
    pub filled : (e : Tree) (known : Names) (names : List Name) (k : Kind) (t : Shape) → AreSeen known names → known.funs ≡ funs → EachCall (HasRoutine funs fs) Q e → kind e known ≡ Fine k → IsPlain e → IsLike t k
        → left_out_fill fs names t e ≡ None
    filled (tree.number a at) known names k t seen same calls h plain like =
        where_none t NumKind at None tt (subst (IsLike t) (sym (fine-is NumKind k h)) like) refl
    filled (tree.truth b at) known names k t seen same calls h plain like =
        where_none t BoolKind at None tt (subst (IsLike t) (sym (fine-is BoolKind k h)) like) refl
    filled (tree.variable text at) known names k t seen same calls h plain like =
        let x = known_kind (meant_by text known) k at h in
        name_left t names text at x.0 k (seen text x.0 x.1) x.2 like
    filled (tree.call text args at) known names k t seen same calls h plain like =
        let c : IsCalled funs fs Q text known args k = is_called funs fs Q text args at known k calls.0 same h in
        where_none t k at (elim (function_for text (number_of args) fs) [ None ↦ Some at | Some f ↦ left_out_args fs names args ]) (subst IsOne c.is (one_scalar c.fun.result)) like
        (ap (λ (o : Option Function). elim o [ None ↦ Some at | Some f ↦ left_out_args fs names args ]) c.found
        ∙ args_filled args known names c.fun.formals seen same calls.1 c.fit c.has.formals plain)
    filled (tree.paren e at) known names k t seen same calls h plain like = filled e known names k t seen same calls h plain like
    filled (tree.if_expr test first other at) known names k t seen same calls h plain like =
        let x = split (kind test known) _ k h in
        let y = split (kind first known) _ k x.2 in
        let z = split (kind other known) _ k y.2 in
        let b = branch_parts x.0 y.0 z.0 k at z.2 in
        neither (left_out_fill fs names one test) (left_out_fill fs names t first or_else left_out_fill fs names t other)
        (filled test known names x.0 one seen same calls.0 x.1 plain.0 (one_like scalar.Bool x.0 (subst IsOne (sym b.0) tt)))
        (neither (left_out_fill fs names t first) (left_out_fill fs names t other)
        (filled first known names k t seen same calls.1 (y.1 ∙ ap Fine b.1) plain.1 like)
        (filled other known names k t seen same calls.2 (z.1 ∙ ap Fine b.2) plain.2 like))
    filled (tree.list es at) known names k t seen same calls h plain like =
        let ks = split (kinds es known) _ k h in
        let l : IsListed ks.0 k = listed_kinds ks.0 k at ks.2 in
        many_left t at (length ks.0) l.item (Some (number_of es)) (λ items. left_out_fills fs names items es) (subst (IsLike t) (sym l.is) like) (ap Some (kinds_count es known ks.0 ks.1))
        (λ items of_item. fills es known names ks.0 l.item items seen same calls ks.1 l.all plain of_item)
    filled (tree.comp item gens at) known names k t seen same calls h plain like =
        let i = split (kind item (with_counters gens known)) _ k h in
        let m = split (elements_in gens known) _ k i.2 in
        many_left t at m.0 i.0 (made_by gens)
        (λ items. left_out_made names gens (λ inner. left_out_element items (left_out_fill fs inner one item) (left_out_fill fs inner items item)))
        (subst (IsLike t) (sym (list-of-kind m.0 i.0 k at m.2)) like) (made_by_is gens m.0 (made_seen gens known m.0 plain.1 m.1) (list_few m.0 at i.0 k m.2).0)
        (λ items of_item. made_left gens known names m.0 (λ inner. left_out_element items (left_out_fill fs inner one item) (left_out_fill fs inner items item)) seen plain.1 m.1
        (λ inner inside. element_left items i.0 (left_out_fill fs inner one item) (left_out_fill fs inner items item) of_item
        (λ single. filled item (with_counters gens known) inner i.0 one inside (funs_counters gens known ∙ same) calls.0 i.1 plain.0 single)
        (filled item (with_counters gens known) inner i.0 items inside (funs_counters gens known ∙ same) calls.0 i.1 plain.0 of_item)))
    filled (tree.index base place at) known names k (Single s) seen same calls h plain like =
        let x = split (kind base known) _ k h in
        let y = split (kind place known) _ k x.2 in
        let i : IsItem x.0 y.0 k = item_parts x.0 y.0 k at y.2 in
        let of_one : IsLike one k = one_like scalar.Bool k (like_one s k like) in
        let whole : IsLike (Many i.count one) x.0 = subst (IsLike (Many i.count one)) (sym i.list) (refl, of_one) in
        let no_place : left_out_fill fs names one place ≡ None = filled place known names y.0 one seen same calls.1 y.1 plain.1 (one_like scalar.Bool y.0 (subst IsOne (sym i.place) tt)) in
        let no_places : left_out_places fs names base ≡ None = places base known names x.0 seen same calls.0 x.1 plain.0 in
        single_index (list_named names base) (deep_named names (tree.index base place at)) (left_out_fill fs names one place) (left_out_places fs names base or_else left_out_fill fs names one place)
        (left_out_apart (items_seen names base 0) one at (λ list. left_out_fill fs names list base) (left_out_fill fs names one place))
        no_place (neither (left_out_places fs names base) (left_out_fill fs names one place) no_places no_place)
        (apart_left (items_seen names base 0) i.count (scalars_of_kind x.0) at one (λ list. left_out_fill fs names list base) (left_out_fill fs names one place)
        (items_are base known names x.0 0 i.count (lists_seen known names seen) x.1 plain.0 (subst (λ j. HasItems j 0 i.count) (sym i.list) refl))
        (sized_like (Many i.count one) x.0 whole (within base known x.0 (known_within known names seen) x.1))
        (filled base known names x.0 (Many i.count one) seen same calls.0 x.1 plain.0 whole) no_place)
    filled (tree.index base place at) known names k (Many n items) seen same calls h plain like =
        let x = split (kind base known) _ k h in
        let y = split (kind place known) _ k x.2 in
        let i : IsItem x.0 y.0 k = item_parts x.0 y.0 k at y.2 in
        let whole : IsLike (Many i.count (Many n items)) x.0 = subst (IsLike (Many i.count (Many n items))) (sym i.list) (refl, like) in
        let no_place : left_out_fill fs names one place ≡ None = filled place known names y.0 one seen same calls.1 y.1 plain.1 (one_like scalar.Bool y.0 (subst IsOne (sym i.place) tt)) in
        let no_places : left_out_places fs names base ≡ None = places base known names x.0 seen same calls.0 x.1 plain.0 in
        list_index (part_named names (tree.index base place at)) (Many n items) at (left_out_places fs names base or_else left_out_fill fs names one place)
        (left_out_apart (items_seen names base 0) (Many n items) at (λ list. left_out_fill fs names list base) (left_out_fill fs names one place))
        (λ p e. part_meant base place at known names k p n items seen h e like)
        (neither (left_out_places fs names base) (left_out_fill fs names one place) no_places no_place)
        (apart_left (items_seen names base 0) i.count (scalars_of_kind x.0) at (Many n items) (λ list. left_out_fill fs names list base) (left_out_fill fs names one place)
        (items_are base known names x.0 0 i.count (lists_seen known names seen) x.1 plain.0 (subst (λ j. HasItems j 0 i.count) (sym i.list) refl))
        (sized_like (Many i.count (Many n items)) x.0 whole (within base known x.0 (known_within known names seen) x.1))
        (filled base known names x.0 (Many i.count (Many n items)) seen same calls.0 x.1 plain.0 whole) no_place)
    filled (tree.prefix op e at) known names k t seen same calls h plain like =
        let x = split (kind e known) _ k h in
        let ones = prefix_one op x.0 k at x.2 in
        where_none t k at (left_out_fill fs names one e) ones.1 like (filled e known names x.0 one seen same calls x.1 plain (one_like scalar.Bool x.0 ones.0))
    filled (tree.binary op l r at) known names k t seen same calls h plain like =
        let x = split (kind l known) _ k h in
        let y = split (kind r known) _ k x.2 in
        let ones = binary_one op x.0 y.0 k at y.2 in
        let test : is_short op && not (is_truth fs names l) ≡ false =
        not_both (is_short op) (is_truth fs names l)
        (λ short. sorted funs fs Q l known names x.0 sort.Truths 0 seen same calls.0 x.1 plain.0
        (subst (λ j. SortAt j sort.Truths 0) (sym (short_left op x.0 y.0 k at short y.2)) tt)) in
        where_none t k at (if is_short op && not (is_truth fs names l) then Some at else left_out_fill fs names one l or_else left_out_fill fs names one r) ones.2 like
        (ap (λ b. if b then Some at else left_out_fill fs names one l or_else left_out_fill fs names one r) test
        ∙ neither (left_out_fill fs names one l) (left_out_fill fs names one r)
        (filled l known names x.0 one seen same calls.0 x.1 plain.0 (one_like scalar.Bool x.0 ones.0))
        (filled r known names y.0 one seen same calls.1 y.1 plain.1 (one_like scalar.Bool y.0 ones.1)))
    filled other known names k t seen same calls h plain like = absurd (not-fine wrong_kind 0 k h)

    -- .. of some that are of one kind
    pub fills : (es : Tree) (known : Names) (names : List Name) (ks : List Kind) (item : Kind) (t : Shape) → AreSeen known names → known.funs ≡ funs → EachCall (HasRoutine funs fs) Q es → kinds es known ≡ Fine ks → AreAll item ks → IsPlain es → IsLike t item
        → left_out_fills fs names t es ≡ None
    fills tree.nil known names ks item t seen same calls h all plain like = refl
    fills (tree.cons e es) known names ks item t seen same calls h all plain like =
        let k = split (kind e known) _ ks h in
        let more = split (kinds es known) _ ks k.2 in
        let each : AreAll item (k.0 ∷ more.0) = subst (AreAll item) (sym (fine-is (k.0 ∷ more.0) ks more.2)) all in
        neither (left_out_fill fs names t e) (left_out_fills fs names t es)
        (filled e known names k.0 t seen same calls.0 k.1 plain.0 (subst (IsLike t) (sym each.0) like))
        (fills es known names more.0 item t seen same calls.1 more.1 each.1 plain.1 like)
    fills other known names ks item t seen same calls h all plain like = absurd (not-fine wrong_kind 0 ks h)

    -- .. of the indexes of a chain
    places : (e : Tree) (known : Names) (names : List Name) (k : Kind) → AreSeen known names → known.funs ≡ funs → EachCall (HasRoutine funs fs) Q e → kind e known ≡ Fine k → IsPlain e → left_out_places fs names e ≡ None
    places (tree.index base place at) known names k seen same calls h plain =
        let x = split (kind base known) _ k h in
        let y = split (kind place known) _ k x.2 in
        let i : IsItem x.0 y.0 k = item_parts x.0 y.0 k at y.2 in
        neither (left_out_places fs names base) (left_out_fill fs names one place)
        (places base known names x.0 seen same calls.0 x.1 plain.0)
        (filled place known names y.0 one seen same calls.1 y.1 plain.1 (one_like scalar.Bool y.0 (subst IsOne (sym i.place) tt)))
    places other known names k seen same calls h plain = refl

    -- .. of arguments
    pub args_filled : (es : Tree) (known : Names) (names : List Name) (formals : List Local) → AreSeen known names → known.funs ≡ funs → EachCall (HasRoutine funs fs) Q es → arguments_fit es formals known ≡ Fine true → Each IsFormal formals → IsPlain es
        → left_out_args fs names es ≡ None
    args_filled tree.nil known names formals seen same calls h each plain = refl
    args_filled (tree.cons e es) known names [] seen same calls h each plain =
        let x = split (kind e known) _ true h in
        let y = split (arguments_fit es [] known) _ true x.2 in
        let none : false ≡ true = fine-is false true y.2 in absurd (cc)
    args_filled (tree.cons e es) known names (f ∷ formals) seen same calls h each plain =
        let x = split (kind e known) _ true h in
        let y = split (one_kind (kind_of_type f.shape) x.0 (begins e)) _ true x.2 in
        neither (left_out_fill fs names one e) (left_out_args fs names es)
        (filled e known names x.0 one seen same calls.0 x.1 plain.0 (one_like scalar.Bool x.0 (formal_one f x.0 y.0 (begins e) each.0 y.1)))
        (args_filled es known names formals seen same calls.1 y.2 each.1 plain.1)
    args_filled other known names formals seen same calls h each plain = absurd (not-fine wrong_kind 0 true h)
