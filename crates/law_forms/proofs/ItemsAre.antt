-- A list of a kind is seen to have the items of that kind.
use Rattle.std.proofs.Common.{◌≡◌, ℕ, zero, suc, ◌-◌, ◌<◌, ◌≤◌, ◌^◌, true, false, List, [], ◌∷◌, length, sym, ap, ◌∙◌, subst, Option, None, Some, arith}
use Rattle.std.specs.Prelude.{if◌then◌else◌, nat_eq, nat_lt}
use Rattle.std.proofs.lemmas.Bool.Decides.{nat_tests}
use Rattle.rvc_base.specs.declared.scalar.Scalar.{Scalar}
use Rattle.rvc_base.specs.declared.scalar.Scalar.TheVariants as scalar
use Rattle.rvc_base.specs.Rules.{wrong_kind}
use Rattle.cal_ast.specs.Tree as tree
use Rattle.cal_ast.specs.Tree.{Tree}
use Rattle.cal_model.specs.Value.{Kind, NumKind, BoolKind, ListKind, Shape, Single, Many, kind_of_scalar, kind_of_type, max_list_scalars}
use Rattle.cal_model.specs.Kinding.{Fine, Names, arguments_fit, elements_in, kind, kinds, meant_by, with_counters}
use Rattle.cal_model.specs.Call.{fun_named}
use Rattle.cal_model.specs.Sound.{IsPlain}
use Rattle.cal_model.proofs.KindValues.{fine-is, list-of-kind, not-fine, split, tested}
use Rattle.lower_base.specs.ItemsSeen.{few, first_seen, items_at, items_listed, items_made, items_seen}
use Rattle.lower_base.specs.Generators.{made_by}
use Rattle.lower_base.specs.Names.{Name}
use Rattle.lower_base.specs.Parted.{Part, number_of}
use Rattle.law_forms.specs.Lowerable.{IsSeen}
use Rattle.law_forms.proofs.Like.{IsOne, list_few}
use Rattle.law_forms.proofs.Made.{made_by_is, made_seen}
use Rattle.law_forms.proofs.Ones.{IsItem, IsListed, binary_one, branch_parts, called, item_parts, known_kind, listed_kinds, prefix_one}
use Rattle.law_forms.proofs.SeenNames.{IsListKind, ListsSeen, lists_counters, whole_seen}

-- ---- lists inside lists

-- once so many indexes are put on it, a list of a kind has so many items
abbrev pub HasItems : Kind → ℕ → ℕ → Type 0
HasItems NumKind d n = ⊥
HasItems BoolKind d n = ⊥
HasItems (ListKind m k) zero n = m ≡ n
HasItems (ListKind m k) (suc d) n = HasItems k d n

one_has_none : (k : Kind) (d n : ℕ) → IsOne k → HasItems k d n → ⊥
one_has_none NumKind d n o h = h
one_has_none BoolKind d n o h = h
one_has_none (ListKind m k) d n o h = o

scalar_has_none : (s : Scalar) (d n : ℕ) → HasItems (kind_of_scalar s) d n → ⊥
scalar_has_none scalar.Bool d n h = h
scalar_has_none (scalar.Int m) d n h = h
scalar_has_none (scalar.Uint m) d n h = h

has_items_list : (k : Kind) (d n : ℕ) → HasItems k d n → IsListKind k
has_items_list NumKind d n h = h
has_items_list BoolKind d n h = h
has_items_list (ListKind m k) d n h = tt

-- ---- tests of depths

pub not_zero : (d : ℕ) → nat_eq (suc d) 0 ≡ false
not_zero d = grind (arith, nat_tests)

pub one_less : (d : ℕ) → suc d - 1 ≡ d
one_less d = omega arith

pub few_is : (n : ℕ) → n < 2 ^ 32 → few n ≡ Some n
few_is n h = let test : nat_lt n (2 ^ 32) ≡ true = grind (arith, nat_tests, h) in ap (λ b. if b then Some n else None) test

pub few_low : (n : ℕ) → n ≤ max_list_scalars → few n ≡ Some n
few_low n h = few_is n (omega (arith, h))

items_of_kind : (t : Shape) (d n : ℕ) → HasItems (kind_of_type t) d n → items_at d t ≡ Some n
items_of_kind (Single s) d n h = absurd (scalar_has_none s d n h)
items_of_kind (Many m items) zero n h = ap Some h
items_of_kind (Many m items) (suc d) n h =
    ap (λ b. if b then Some m else items_at (suc d - 1) items) (not_zero d) ∙ ap (λ j. items_at j items) (one_less d) ∙ items_of_kind items d n h

listed_deeper : (d m : ℕ) (first : ℕ → Option ℕ) → items_listed (suc d) m first ≡ first d
listed_deeper d m first = ap (λ b. if b then few m else first (suc d - 1)) (not_zero d) ∙ ap first (one_less d)

made_deeper : (d : ℕ) (many : Option ℕ) (item : ℕ → Option ℕ) → items_made (suc d) many item ≡ item d
made_deeper d many item = ap (λ b. if b then many else item (suc d - 1)) (not_zero d) ∙ ap item (one_less d)

-- ---- as many as are written

pub kinds_count : (es : Tree) (known : Names) (ks : List Kind) → kinds es known ≡ Fine ks → number_of es ≡ length ks
kinds_count tree.nil known ks h = ap length (fine-is [] ks h)
kinds_count (tree.cons e es) known ks h =
    let k = split (kind e known) _ ks h in
    let others = split (kinds es known) _ ks k.2 in
    ap suc (kinds_count es known others.0 others.1) ∙ ap length (fine-is (k.0 ∷ others.0) ks others.2)
kinds_count other known ks h = absurd (not-fine wrong_kind 0 ks h)

-- ---- expressions

mutual
  -- how many items an expression is seen to have, if it has a kind
  pub items_are : (e : Tree) (known : Names) (names : List Name) (k : Kind) (d n : ℕ) → ListsSeen known names → kind e known ≡ Fine k → IsPlain e → HasItems k d n
      → items_seen names e d ≡ Some n
  items_are (tree.number a at) known names k d n seen h plain has =
      absurd (subst (λ j. HasItems j d n) (sym (fine-is NumKind k h)) has)
  items_are (tree.truth b at) known names k d n seen h plain has =
      absurd (subst (λ j. HasItems j d n) (sym (fine-is BoolKind k h)) has)
  items_are (tree.variable text at) known names k d n seen h plain has =
      let x = known_kind (meant_by text known) k at h in
      let mine : HasItems x.0.kind d n = subst (λ j. HasItems j d n) (sym x.2) has in
      let list : IsListKind x.0.kind = has_items_list x.0.kind d n mine in
      let s : IsSeen names text x.0 = seen text x.0 x.1 list in
      ap (λ (o : Option Part). elim o [ None ↦ None | Some p ↦ items_at d p.shape ]) (whole_seen names text at x.0 s list)
      ∙ items_of_kind s.name.shape d n (subst (λ j. HasItems j d n) (sym s.kind) mine)
  items_are (tree.call text args at) known names k d n seen h plain has =
      let f = called (fun_named text known.funs) _ k at h in
      let i = split (arguments_fit args f.0.formals known) _ k f.2 in
      let b = tested i.0 (Fine (kind_of_scalar f.0.result)) _ at k i.2 in
      absurd (scalar_has_none f.0.result d n (subst (λ j. HasItems j d n) (sym (fine-is (kind_of_scalar f.0.result) k b.1)) has))
  items_are (tree.paren e at) known names k d n seen h plain has = items_are e known names k d n seen h plain has
  items_are (tree.if_expr test first other at) known names k d n seen h plain has =
      let x = split (kind test known) _ k h in
      let y = split (kind first known) _ k x.2 in
      let z = split (kind other known) _ k y.2 in
      let b = branch_parts x.0 y.0 z.0 k at z.2 in
      items_are first known names k d n seen (y.1 ∙ ap Fine b.1) plain.1 has
  items_are (tree.list es at) known names k zero n seen h plain has =
      let ks = split (kinds es known) _ k h in
      let l : IsListed ks.0 k = listed_kinds ks.0 k at ks.2 in
      let same : length ks.0 ≡ n = subst (λ j. HasItems j 0 n) (sym l.is) has in
      ap few (kinds_count es known ks.0 ks.1) ∙ few_low (length ks.0) (list_few (length ks.0) l.at l.item k l.judged).0 ∙ ap Some same
  items_are (tree.list es at) known names k (suc d) n seen h plain has =
      let ks = split (kinds es known) _ k h in
      let l : IsListed ks.0 k = listed_kinds ks.0 k at ks.2 in
      listed_deeper d (number_of es) (λ j. first_seen names es j)
      ∙ first_is es known names ks.0 l.item l.others d n seen ks.1 plain l.some (subst (λ j. HasItems j (suc d) n) (sym l.is) has)
  items_are (tree.comp item gens at) known names k zero n seen h plain has =
      let i = split (kind item (with_counters gens known)) _ k h in
      let m = split (elements_in gens known) _ k i.2 in
      let same : m.0 ≡ n = subst (λ j. HasItems j 0 n) (sym (list-of-kind m.0 i.0 k at m.2)) has in
      made_by_is gens m.0 (made_seen gens known m.0 plain.1 m.1) (list_few m.0 at i.0 k m.2).0 ∙ ap Some same
  items_are (tree.comp item gens at) known names k (suc d) n seen h plain has =
      let i = split (kind item (with_counters gens known)) _ k h in
      let m = split (elements_in gens known) _ k i.2 in
      made_deeper d (made_by gens) (λ j. items_seen names item j)
      ∙ items_are item (with_counters gens known) names i.0 d n (lists_counters gens known names seen) i.1 plain.0
      (subst (λ j. HasItems j (suc d) n) (sym (list-of-kind m.0 i.0 k at m.2)) has)
  items_are (tree.index base place at) known names k d n seen h plain has =
      let x = split (kind base known) _ k h in
      let y = split (kind place known) _ k x.2 in
      let i : IsItem x.0 y.0 k = item_parts x.0 y.0 k at y.2 in
      items_are base known names x.0 (suc d) n seen x.1 plain.0 (subst (λ j. HasItems j (suc d) n) (sym i.list) has)
  items_are (tree.prefix op e at) known names k d n seen h plain has =
      let x = split (kind e known) _ k h in
      absurd (one_has_none k d n (prefix_one op x.0 k at x.2).1 has)
  items_are (tree.binary op l r at) known names k d n seen h plain has =
      let x = split (kind l known) _ k h in
      let y = split (kind r known) _ k x.2 in
      absurd (one_has_none k d n (binary_one op x.0 y.0 k at y.2).2 has)
  items_are other known names k d n seen h plain has = absurd (not-fine wrong_kind 0 k h)

  -- .. and the first of some that are of one kind
  first_is : (es : Tree) (known : Names) (names : List Name) (ks : List Kind) (item : Kind) (others : List Kind) (d n : ℕ) → ListsSeen known names → kinds es known ≡ Fine ks → IsPlain es
      → ks ≡ item ∷ others → HasItems item d n → first_seen names es d ≡ Some n
  first_is tree.nil known names ks item others d n seen h plain some has =
      let none : ◌≡◌ {A = List Kind} [] (item ∷ others) = fine-is [] ks h ∙ some in absurd (cc)
  first_is (tree.cons e es) known names ks item others d n seen h plain some has =
      let k = split (kind e known) _ ks h in
      let more = split (kinds es known) _ ks k.2 in
      let same : k.0 ∷ more.0 ≡ item ∷ others = fine-is (k.0 ∷ more.0) ks more.2 ∙ some in
      let first : k.0 ≡ item = cc in
      items_are e known names item d n seen (k.1 ∙ ap Fine first) plain.0 has
  first_is other known names ks item others d n seen h plain some has = absurd (not-fine wrong_kind 0 ks h)
