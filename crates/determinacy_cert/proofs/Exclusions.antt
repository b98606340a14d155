-- The test of guards that exclude each other says what the rule says.
use Rattle.std.proofs.Common.{◌≡◌, ℕ, ◌⊎◌, inl, inr, Bool, true, false, ℤ, List, [], ◌∷◌, ◌++◌, refl, sym, ap, subst, ◌∙◌}
use Rattle.std.specs.Prelude.{◌||◌, Option, None, Some, if◌then◌else◌}
use Rattle.cal_ast.specs.declared.expr.PrefixOp.{PrefixOp}
use Rattle.cal_ast.specs.declared.expr.PrefixOp.TheVariants.{Not, Neg, BitNot}
use Rattle.cal_ast.specs.declared.expr.BinOp.{BinOp}
use Rattle.cal_ast.specs.declared.expr.BinOp.TheVariants.{And}
use Rattle.cal_ast.specs.Apart.{unplaced, IsEqualApart}
use Rattle.cal_ast.specs.Tree as tree
use Rattle.cal_ast.specs.Tree.{Tree}
use Rattle.cal_model.specs.Actor.{Pattern, Action, Actor}
use Rattle.cal_model.specs.Sound.{Each}
use Rattle.cal_model.specs.Certified.{Interval, Ranged, range, guard_names, HasTameGuards, key_in, keyed, conjuncts, all_conjuncts, literal, is_comparison, Compares, CompareApart, IsNotOf, Exclude, AnyOf, GuardsExclude, IsBare}
use Rattle.determinacy_cert.specs.Deciding.{same, Comparison, compared_by, compared, compare_apart, denied_by, denied, is_not_of, exclude, any_of, guards_exclude, never_both}
use Rattle.determinacy_cert.proofs.Ranges.{two_true}
use Rattle.determinacy_cert.proofs.BareTrees.{both_true}
use Rattle.determinacy_cert.proofs.NeverBoth.{never_if, never_then}
use Rattle.determinacy_cert.proofs.SameTrees.{IsSimple, simple, same_if, same_then}

pub either_true : (a b : Bool) → (a || b) ≡ true → (a ≡ true) ⊎ (b ≡ true)
either_true true b h = inl refl
either_true false b h = inr h

pub left_true : (a b : Bool) → a ≡ true → (a || b) ≡ true
left_true true b h = refl
left_true false b h = cc

pub right_true : (a b : Bool) → b ≡ true → (a || b) ≡ true
right_true true b h = refl
right_true false b h = h

-- ---- literals are the same with names keyed

name_no_literal : (o : Option (List ℕ)) (name : List ℕ) (at : ℕ) → literal (elim o [ Some key ↦ tree.ident key at | None ↦ tree.variable name at ]) ≡ None
name_no_literal None name at = refl
name_no_literal (Some key) name at = refl

minus_name : (o : Option (List ℕ)) (name : List ℕ) (at place : ℕ) → literal (tree.prefix Neg (elim o [ Some key ↦ tree.ident key at | None ↦ tree.variable name at ]) place) ≡ None
minus_name None name at place = refl
minus_name (Some key) name at place = refl

minus_keyed : (e : Tree) (qs : List Pattern) (at : ℕ) → literal (tree.prefix Neg (keyed e qs) at) ≡ literal (tree.prefix Neg e at)
minus_keyed (tree.number n place) qs at = refl
minus_keyed (tree.variable name place) qs at = minus_name (key_in name qs) name place at
minus_keyed other qs at = refl

literal_keyed : (t : Tree) (qs : List Pattern) → literal (keyed t qs) ≡ literal t
literal_keyed (tree.number n at) qs = refl
literal_keyed (tree.variable name at) qs = name_no_literal (key_in name qs) name at
literal_keyed (tree.prefix Neg e at) qs = minus_keyed e qs at
literal_keyed (tree.prefix Not e at) qs = refl
literal_keyed (tree.prefix BitNot e at) qs = refl
literal_keyed other qs = refl

-- ---- comparisons

record IsBy (op : BinOp) (e : Tree) (o : Option ℤ) (x : Comparison) : Type 0 where
  pub left : x.left ≡ e
  pub op_is : x.op ≡ op
  pub compares : is_comparison op ≡ true
  pub number : o ≡ Some x.number

by_if : (b : Bool) (op : BinOp) (e : Tree) (n : ℤ) (x : Comparison) → is_comparison op ≡ b → (if b then Some (record { left = e; op = op; number = n }) else None) ≡ Some x → IsBy op e (Some n) x
by_if true op e n x c h =
    let s : record { left = e; op = op; number = n } ≡ x = cc in
    record { left = sym (ap (λ y. y.left) s); op_is = sym (ap (λ y. y.op) s); compares = c; number = ap (λ y. Some y.number) s }
by_if false op e n x c h = absurd (cc)

compared_parts : (op : BinOp) (e : Tree) (o : Option ℤ) (x : Comparison) → compared_by op e o ≡ Some x → IsBy op e o x
compared_parts op e None x h = absurd (cc)
compared_parts op e (Some n) x h = by_if (is_comparison op) op e n x refl h

abbrev comparison_of : BinOp → Tree → ℤ → Comparison
comparison_of op e n = record { left = e; op = op; number = n }

by_then : (b : Bool) (op : BinOp) (e : Tree) (n : ℤ) → b ≡ true → (if b then Some (comparison_of op e n) else None) ≡ Some (comparison_of op e n)
by_then true op e n h = refl
by_then false op e n h = cc

compared_then : (op : BinOp) (e : Tree) (o : Option ℤ) (n : ℤ) → is_comparison op ≡ true → o ≡ Some n → compared_by op e o ≡ Some (record { left = e; op = op; number = n })
compared_then op e None n c h = cc
compared_then op e (Some m) n c h = let s : m ≡ n = cc in by_then (is_comparison op) op e m c ∙ ap (λ k. Some (comparison_of op e k)) s

compares_if : (c : Tree) (qs : List Pattern) (x : Comparison) → compared c ≡ Some x → Compares (keyed c qs) (keyed x.left qs) x.op x.number
compares_if (tree.binary op e right at) qs x h =
    let by = compared_parts op e (literal right) x h in
    record {
      right = keyed right qs;
      at = at;
      is = ap (λ k. tree.binary k (keyed e qs) (keyed right qs) at) (sym by.op_is) ∙ ap (λ k. tree.binary x.op (keyed k qs) (keyed right qs) at) (sym by.left);
      comparison = subst (λ k. is_comparison k ≡ true) (sym by.op_is) by.compares;
      number = literal_keyed right qs ∙ by.number;
    }
compares_if other qs x h = absurd (cc)

-- the comparison that stands in a tree which is one with names keyed
record Stands (c e : Tree) (qs : List Pattern) (op : BinOp) (n : ℤ) : Type 0 where
  pub left : Tree
  pub is : compared c ≡ Some (record { left = left; op = op; number = n })
  pub keyed_left : keyed left qs ≡ e
  pub simple_left : IsSimple left

name_no_binary : (o : Option (List ℕ)) (name : List ℕ) (at : ℕ) (op : BinOp) (l r : Tree) (place : ℕ) → elim o [ Some key ↦ tree.ident key at | None ↦ tree.variable name at ] ≡ tree.binary op l r place → ⊥
name_no_binary None name at op l r place h = cc
name_no_binary (Some key) name at op l r place h = cc

stands : (c e right : Tree) (qs : List Pattern) (op : BinOp) (n : ℤ) (at : ℕ) → IsSimple c → keyed c qs ≡ tree.binary op e right at → is_comparison op ≡ true → literal right ≡ Some n → Stands c e qs op n
stands (tree.binary o l r place) e right qs op n at s h c k =
    let op_is : o ≡ op = cc in
    let left_is : keyed l qs ≡ e = cc in
    let right_is : keyed r qs ≡ right = cc in
    record {
      left = l;
      is = ap (λ w. compared_by w l (literal r)) op_is ∙ compared_then op l (literal r) n c (sym (literal_keyed r qs) ∙ ap literal right_is ∙ k);
      keyed_left = left_is;
      simple_left = s.0;
    }
stands (tree.variable name place) e right qs op n at s h c k = absurd (name_no_binary (key_in name qs) name place op e right at h)
stands other e right qs op n at s h c k = absurd (cc)

compares_then : (c e : Tree) (qs : List Pattern) (op : BinOp) (n : ℤ) → IsSimple c → Compares (keyed c qs) e op n → Stands c e qs op n
compares_then c e qs op n s h = stands c e h.right qs op n h.at s h.is h.comparison h.number

record AreApart (o p : Option Comparison) (qs rs : List Pattern) : Type 0 where
  pub x : Comparison
  pub y : Comparison
  pub one : o ≡ Some x
  pub two : p ≡ Some y
  pub never : never_both x.op x.number y.op y.number ≡ true
  pub same_left : same x.left qs y.left rs ≡ true

apart_parts : (o p : Option Comparison) (qs rs : List Pattern) → compare_apart o qs p rs ≡ true → AreApart o p qs rs
apart_parts None p qs rs h = absurd (cc)
apart_parts (Some x) None qs rs h = absurd (cc)
apart_parts (Some x) (Some y) qs rs h =
    let two = two_true (never_both x.op x.number y.op y.number) (same x.left qs y.left rs) h in
    record { x = x; y = y; one = refl; two = refl; never = two.0; same_left = two.1 }

apart_if : (c d : Tree) (qs rs : List Pattern) → compare_apart (compared c) qs (compared d) rs ≡ true → CompareApart (keyed c qs) (keyed d rs)
apart_if c d qs rs h =
    let p = apart_parts (compared c) (compared d) qs rs h in
    record {
      left = keyed p.x.left qs;
      other = keyed p.y.left rs;
      one_op = p.x.op;
      other_op = p.y.op;
      n = p.x.number;
      m = p.y.number;
      one = compares_if c qs p.x p.one;
      two = compares_if d rs p.y p.two;
      same = same_if p.x.left p.y.left qs rs p.same_left;
      never = never_if p.x.op p.y.op p.x.number p.y.number p.never;
    }

apart_then : (c d : Tree) (qs rs : List Pattern) → IsSimple c → IsSimple d → CompareApart (keyed c qs) (keyed d rs) → compare_apart (compared c) qs (compared d) rs ≡ true
apart_then c d qs rs p q h =
    let x = compares_then c h.left qs h.one_op h.n p h.one in
    let y = compares_then d h.other rs h.other_op h.m q h.two in
    let lefts : IsEqualApart (keyed x.left qs) (keyed y.left rs) = ap unplaced x.keyed_left ∙ h.same ∙ ap unplaced (sym y.keyed_left) in
    ap (λ o. compare_apart o qs (compared d) rs) x.is
    ∙ ap (λ o. compare_apart (Some (record { left = x.left; op = h.one_op; number = h.n })) qs o rs) y.is
    ∙ both_true (never_both h.one_op h.n h.other_op h.m) (same x.left qs y.left rs)
    (never_then h.one_op h.other_op h.n h.m h.one.comparison h.two.comparison h.never)
    (same_then x.left y.left qs rs x.simple_left y.simple_left lefts)

-- ---- `not`

not_there : (d inner : Tree) (rs : List Pattern) → denied d ≡ Some inner → (at : ℕ) × (keyed d rs ≡ tree.prefix Not (keyed inner rs) at)
not_there (tree.prefix Not e at) inner rs h = let s : e ≡ inner = cc in (at, ap (λ k. tree.prefix Not (keyed k rs) at) s)
not_there (tree.prefix Neg e at) inner rs h = absurd (cc)
not_there (tree.prefix BitNot e at) inner rs h = absurd (cc)
not_there other inner rs h = absurd (cc)

not_parts : (c : Tree) (o : Option Tree) (qs rs : List Pattern) → is_not_of c qs o rs ≡ true → (inner : Tree) × ((o ≡ Some inner) × (same c qs inner rs ≡ true))
not_parts c None qs rs h = absurd (cc)
not_parts c (Some inner) qs rs h = (inner, (refl, h))

not_if : (c d : Tree) (qs rs : List Pattern) → is_not_of c qs (denied d) rs ≡ true → IsNotOf (keyed c qs) (keyed d rs)
not_if c d qs rs h =
    let p = not_parts c (denied d) qs rs h in
    let there = not_there d p.0 rs p.1.0 in
    record { inner = keyed p.0 rs; at = there.0; is = there.1; same = same_if c p.0 qs rs p.1.1 }

name_no_prefix : (o : Option (List ℕ)) (name : List ℕ) (at : ℕ) (op : PrefixOp) (e : Tree) (place : ℕ) → elim o [ Some key ↦ tree.ident key at | None ↦ tree.variable name at ] ≡ tree.prefix op e place → ⊥
name_no_prefix None name at op e place h = cc
name_no_prefix (Some key) name at op e place h = cc

record IsDenied (d inner : Tree) (rs : List Pattern) : Type 0 where
  pub part : Tree
  pub is : denied d ≡ Some part
  pub keyed_part : keyed part rs ≡ inner
  pub simple_part : IsSimple part

is_denied : (d inner : Tree) (rs : List Pattern) (at : ℕ) → IsSimple d → keyed d rs ≡ tree.prefix Not inner at → IsDenied d inner rs
is_denied (tree.prefix op e place) inner rs at s h =
    let op_is : op ≡ Not = cc in
    let part_is : keyed e rs ≡ inner = cc in
    record { part = e; is = ap (λ k. denied_by k e) op_is; keyed_part = part_is; simple_part = s }
is_denied (tree.variable name place) inner rs at s h = absurd (name_no_prefix (key_in name rs) name place Not inner at h)
is_denied other inner rs at s h = absurd (cc)

not_then : (c d : Tree) (qs rs : List Pattern) → IsSimple c → IsSimple d → IsNotOf (keyed c qs) (keyed d rs) → is_not_of c qs (denied d) rs ≡ true
not_then c d qs rs p q h =
    let x = is_denied d h.inner rs h.at q h.is in
    ap (λ o. is_not_of c qs o rs) x.is ∙ same_then c x.part qs rs p x.simple_part (h.same ∙ ap unplaced (sym x.keyed_part))

-- ---- conjuncts

pub exclude_if : (c d : Tree) (qs rs : List Pattern) → exclude c qs d rs ≡ true → Exclude (keyed c qs) (keyed d rs)
exclude_if c d qs rs h =
    let apart = compare_apart (compared c) qs (compared d) rs in
    let one = is_not_of c qs (denied d) rs in
    elim (either_true (apart || one) (is_not_of d rs (denied c) qs) h) [
      | inl first ↦ elim (either_true apart one first) [ inl a ↦ inl (apart_if c d qs rs a) | inr n ↦ inr (inl (not_if c d qs rs n)) ]
      | inr n ↦ inr (inr (not_if d c rs qs n))
    ]

pub exclude_then : (c d : Tree) (qs rs : List Pattern) → IsSimple c → IsSimple d → Exclude (keyed c qs) (keyed d rs) → exclude c qs d rs ≡ true
exclude_then c d qs rs p q (inl h) =
    left_true (compare_apart (compared c) qs (compared d) rs || is_not_of c qs (denied d) rs) (is_not_of d rs (denied c) qs)
    (left_true (compare_apart (compared c) qs (compared d) rs) (is_not_of c qs (denied d) rs) (apart_then c d qs rs p q h))
exclude_then c d qs rs p q (inr (inl h)) =
    left_true (compare_apart (compared c) qs (compared d) rs || is_not_of c qs (denied d) rs) (is_not_of d rs (denied c) qs)
    (right_true (compare_apart (compared c) qs (compared d) rs) (is_not_of c qs (denied d) rs) (not_then c d qs rs p q h))
exclude_then c d qs rs p q (inr (inr h)) =
    right_true (compare_apart (compared c) qs (compared d) rs || is_not_of c qs (denied d) rs) (is_not_of d rs (denied c) qs) (not_then d c rs qs q p h)

-- ---- guards

any_if : {A : Type 0} (P : A → Type 0) (f : A → Bool) (xs : List A) → ((x : A) → f x ≡ true → P x) → any_of f xs ≡ true → AnyOf P xs
any_if P f [] g h = absurd (cc)
any_if P f (x ∷ xs) g h = elim (either_true (f x) (any_of f xs) h) [ inl p ↦ inl (g x p) | inr p ↦ inr (any_if P f xs g p) ]

any_then : {A : Type 0} (P Q : A → Type 0) (f : A → Bool) (xs : List A) → ((x : A) → Q x → P x → f x ≡ true) → Each Q xs → AnyOf P xs → any_of f xs ≡ true
any_then P Q f [] g q h = absurd h
any_then P Q f (x ∷ xs) g q (inl h) = left_true (f x) (any_of f xs) (g x q.0 h)
any_then P Q f (x ∷ xs) g q (inr h) = right_true (f x) (any_of f xs) (any_then P Q f xs g q.1 h)

each_both : {A : Type 0} (P : A → Type 0) (xs ys : List A) → Each P xs → Each P ys → Each P (xs ++ ys)
each_both P [] ys p q = q
each_both P (x ∷ xs) ys p q = (p.0, each_both P xs ys p.1 q)

conjuncts_simple : (g : Tree) → IsSimple g → Each IsSimple (conjuncts g)
conjuncts_simple (tree.binary And l r at) h = each_both IsSimple (conjuncts l) (conjuncts r) (conjuncts_simple l h.0) (conjuncts_simple r h.1)
conjuncts_simple other h = (h, tt)

all_simple : (names : List Ranged) (gs : List Tree) → Each (λ g. IsBare g × ((i : Interval) × (range g names ≡ Some i))) gs → Each IsSimple (all_conjuncts gs)
all_simple names [] h = tt
all_simple names (g ∷ gs) h = each_both IsSimple (conjuncts g) (all_conjuncts gs) (conjuncts_simple g (simple g names h.0.1.0 h.0.1.1)) (all_simple names gs h.1)

pub guards_exclude_if : (one two : Action) → guards_exclude one two ≡ true → GuardsExclude one two
guards_exclude_if one two h =
    any_if _ (λ c. any_of (λ d. exclude c one.patterns d two.patterns) (all_conjuncts two.guards)) (all_conjuncts one.guards)
    (λ c p. any_if _ (λ d. exclude c one.patterns d two.patterns) (all_conjuncts two.guards) (λ d q. exclude_if c d one.patterns two.patterns q) p) h

pub guards_exclude_then : (actor : Actor) (one two : Action) → HasTameGuards actor one → HasTameGuards actor two → GuardsExclude one two → guards_exclude one two ≡ true
guards_exclude_then actor one two p q h =
    let simple_one : Each IsSimple (all_conjuncts one.guards) = all_simple (guard_names actor one) one.guards p in
    let simple_two : Each IsSimple (all_conjuncts two.guards) = all_simple (guard_names actor two) two.guards q in
    any_then _ IsSimple (λ c. any_of (λ d. exclude c one.patterns d two.patterns) (all_conjuncts two.guards)) (all_conjuncts one.guards)
    (λ c s k. any_then _ IsSimple (λ d. exclude c one.patterns d two.patterns) (all_conjuncts two.guards) (λ d t l. exclude_then c d one.patterns two.patterns s t l) simple_two k)
    simple_one h

-- ---- in both orders

flip : (c d : Tree) → Exclude c d → Exclude d c
flip c d (inl h) = inl (record {
  left = h.other;
  other = h.left;
  one_op = h.other_op;
  other_op = h.one_op;
  n = h.m;
  m = h.n;
  one = h.two;
  two = h.one;
  same = sym h.same;
  never = λ z p q. h.never z q p;
})
flip c d (inr (inl h)) = inr (inr h)
flip c d (inr (inr h)) = inr (inl h)

any_map : {A : Type 0} (P Q : A → Type 0) (xs : List A) → ((x : A) → P x → Q x) → AnyOf P xs → AnyOf Q xs
any_map P Q [] f h = h
any_map P Q (x ∷ xs) f (inl h) = inl (f x h)
any_map P Q (x ∷ xs) f (inr h) = inr (any_map P Q xs f h)

any_swap : {A B : Type 0} (R : A → B → Type 0) (xs : List A) (ys : List B) → AnyOf (λ x. AnyOf (λ y. R x y) ys) xs → AnyOf (λ y. AnyOf (λ x. R x y) xs) ys
any_swap R [] ys h = absurd h
any_swap R (x ∷ xs) ys (inl h) = any_map (λ y. R x y) (λ y. AnyOf (λ w. R w y) (x ∷ xs)) ys (λ y r. inl r) h
any_swap R (x ∷ xs) ys (inr h) = any_map (λ y. AnyOf (λ w. R w y) xs) (λ y. AnyOf (λ w. R w y) (x ∷ xs)) ys (λ y r. inr r) (any_swap R xs ys h)

pub exclude_both : (one two : Action) → GuardsExclude one two → GuardsExclude two one
exclude_both one two h =
    any_map (λ d. AnyOf (λ c. Exclude (keyed c one.patterns) (keyed d two.patterns)) (all_conjuncts one.guards)) _ (all_conjuncts two.guards)
    (λ d k. any_map (λ c. Exclude (keyed c one.patterns) (keyed d two.patterns)) _ (all_conjuncts one.guards) (λ c l. flip (keyed c one.patterns) (keyed d two.patterns) l) k)
    (any_swap (λ c d. Exclude (keyed c one.patterns) (keyed d two.patterns)) (all_conjuncts one.guards) (all_conjuncts two.guards) h)
