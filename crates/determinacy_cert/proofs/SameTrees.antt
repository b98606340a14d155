-- The test of equal trees says what the rule says, of trees that have ranges.
use Rattle.std.proofs.Common.{◌≡◌, ℕ, Bool, true, false, List, refl, sym, ap, subst, ◌∙◌, arith}
use Rattle.std.specs.Prelude.{◌&&◌, ◌==◌, if◌then◌else◌, Option, None, Some}
use Rattle.std.specs.Str.{bytes_eq}
use Rattle.std.proofs.lemmas.Bool.{eqb-true, eq-eqb}
use Rattle.std.proofs.lemmas.Slice.Eq.{bytes_eq-Decides}
use Rattle.cal_ast.specs.declared.expr.PrefixOp.{PrefixOp}
use Rattle.cal_ast.specs.declared.expr.PrefixOp.TheVariants.{Not, Neg, BitNot}
use Rattle.cal_ast.specs.declared.expr.BinOp.{BinOp}
use Rattle.cal_ast.specs.declared.expr.BinOp.TheVariants.{Or, And, BitOr, BitXor, BitAnd, Eq, Ne, Lt, Le, Gt, Ge, Shl, Shr, Add, Sub, Mul, Div, Mod}
use Rattle.cal_ast.specs.Apart.{unplaced, IsEqualApart}
use Rattle.cal_ast.specs.Tree as tree
use Rattle.cal_ast.specs.Tree.{Tree}
use Rattle.cal_model.specs.Actor.{Pattern}
use Rattle.cal_model.specs.Certified.{Interval, Ranged, range, indexed, on_interval, on_ranged, key_in, keyed}
use Rattle.determinacy_cert.specs.Deciding.{as_number, as_truth, as_variable, as_paren, as_if, as_index, as_prefix, as_binary, same, same_names, same_truth, prefix_number, op_number}
use Rattle.determinacy_cert.proofs.Ranges.{two_true}
use Rattle.determinacy_cert.proofs.BareTrees.{both_true}

-- ---- trees that have ranges

-- a tree of the forms that have ranges
abbrev pub IsSimple : Tree → Type 0
IsSimple (tree.number n at) = Unit {0}
IsSimple (tree.truth b at) = Unit {0}
IsSimple (tree.variable name at) = Unit {0}
IsSimple (tree.paren e at) = IsSimple e
IsSimple (tree.if_expr a b c at) = IsSimple a × IsSimple b × IsSimple c
IsSimple (tree.index a b at) = IsSimple a × IsSimple b
IsSimple (tree.prefix op e at) = IsSimple e
IsSimple (tree.binary op l r at) = IsSimple l × IsSimple r
IsSimple other = ⊥

pub record Met {A B : Type 0} (o : Option A) (f : A → Option B) (b : B) : Type 0 where
  pub value : A
  pub is : o ≡ Some value
  pub gives : f value ≡ Some b

met_interval : {B : Type 0} (o : Option Interval) (f : Interval → Option B) (b : B) → on_interval o f ≡ Some b → Met o f b
met_interval None f b h = absurd (cc)
met_interval (Some i) f b h = record { value = i; is = refl; gives = h }

met_ranged : {B : Type 0} (o : Option Ranged) (f : Ranged → Option B) (b : B) → on_ranged o f ≡ Some b → Met o f b
met_ranged None f b h = absurd (cc)
met_ranged (Some i) f b h = record { value = i; is = refl; gives = h }

mutual
  pub simple : (t : Tree) (names : List Ranged) (i : Interval) → range t names ≡ Some i → IsSimple t
  simple (tree.number n at) names i h = tt
  simple (tree.truth b at) names i h = tt
  simple (tree.variable name at) names i h = tt
  simple (tree.paren e at) names i h = simple e names i h
  simple (tree.if_expr a b c at) names i h =
      let x = met_interval (range a names) _ i h in
      let y = met_interval (range b names) _ i x.gives in
      let z = met_interval (range c names) _ i y.gives in
      (simple a names x.value x.is, simple b names y.value y.is, simple c names z.value z.is)
  simple (tree.index a b at) names i h =
      let x = met_ranged (indexed a names) _ i h in
      let y = met_interval (range b names) _ i x.gives in
      (simple_list a names x.value x.is, simple b names y.value y.is)
  simple (tree.prefix op e at) names i h = let x = met_interval (range e names) _ i h in simple e names x.value x.is
  simple (tree.binary op l r at) names i h =
      let x = met_interval (range l names) _ i h in
      let y = met_interval (range r names) _ i x.gives in
      (simple l names x.value x.is, simple r names y.value y.is)
  simple other names i h = cc

  simple_list : (t : Tree) (names : List Ranged) (x : Ranged) → indexed t names ≡ Some x → IsSimple t
  simple_list (tree.variable name at) names x h = tt
  simple_list (tree.index a b at) names x h =
      let y = met_ranged (indexed a names) _ x h in
      let z = met_interval (range b names) _ x y.gives in
      (simple_list a names y.value y.is, simple b names z.value z.is)
  simple_list other names x h = cc

-- ---- the test is right

record Found {A : Type 0} (o : Option A) (f : A → Bool) : Type 0 where
  pub value : A
  pub is : o ≡ Some value
  pub true_of : f value ≡ true

found : {A : Type 0} (o : Option A) (f : A → Bool) → elim o [ None ↦ false | Some x ↦ f x ] ≡ true → Found o f
found None f h = absurd (cc)
found (Some x) f h = record { value = x; is = refl; true_of = h }

equal_numbers : (n m : ℕ) → (n == m) ≡ true → n ≡ m
equal_numbers n m h = eqb-true n m h

equal_numbers_then : (n : ℕ) → (n == n) ≡ true
equal_numbers_then n = eq-eqb n n refl

equal_bytes : (xs ys : List ℕ) → bytes_eq xs ys ≡ true → xs ≡ ys
equal_bytes xs ys h = (bytes_eq-Decides xs ys).0 h

equal_bytes_then : (xs : List ℕ) → bytes_eq xs xs ≡ true
equal_bytes_then xs = (bytes_eq-Decides xs xs).1 refl

truths_if : (b c : Bool) → same_truth b c ≡ true → b ≡ c
truths_if true c h = sym h
truths_if false true h = cc
truths_if false false h = refl

truths_then : (b : Bool) → same_truth b b ≡ true
truths_then true = refl
truths_then false = refl

prefix_if : (op other : PrefixOp) → prefix_number op ≡ prefix_number other → op ≡ other
prefix_if Not Not h = refl
prefix_if Neg Neg h = refl
prefix_if BitNot BitNot h = refl
prefix_if op other h = absurd (grind arith)

-- an operator by its number
op_of : ℕ → BinOp
op_of n =
    if n == 0 then Or else
    if n == 1 then And else
    if n == 2 then BitOr else
    if n == 3 then BitXor else
    if n == 4 then BitAnd else
    if n == 5 then Eq else
    if n == 6 then Ne else
    if n == 7 then Lt else
    if n == 8 then Le else
    if n == 9 then Gt else
    if n == 10 then Ge else
    if n == 11 then Shl else
    if n == 12 then Shr else
    if n == 13 then Add else
    if n == 14 then Sub else
    if n == 15 then Mul else
    if n == 16 then Div else
    Mod

op_back : (op : BinOp) → op_of (op_number op) ≡ op
unfolding op_of
op_back Or = refl
op_back And = refl
op_back BitOr = refl
op_back BitXor = refl
op_back BitAnd = refl
op_back Eq = refl
op_back Ne = refl
op_back Lt = refl
op_back Le = refl
op_back Gt = refl
op_back Ge = refl
op_back Shl = refl
op_back Shr = refl
op_back Add = refl
op_back Sub = refl
op_back Mul = refl
op_back Div = refl
op_back Mod = refl

pub op_if : (op other : BinOp) → op_number op ≡ op_number other → op ≡ other
op_if op other h = sym (op_back op) ∙ ap op_of h ∙ op_back other

number_there : (u : Tree) (n : ℕ) (rs : List Pattern) → as_number u ≡ Some n → unplaced (keyed u rs) ≡ tree.number n 0
number_there (tree.number m at) n rs h = let e : m ≡ n = cc in ap (λ k. tree.number k 0) e
number_there other n rs h = cc

truth_there : (u : Tree) (b : Bool) (rs : List Pattern) → as_truth u ≡ Some b → unplaced (keyed u rs) ≡ tree.truth b 0
truth_there (tree.truth c at) b rs h = let e : c ≡ b = cc in ap (λ k. tree.truth k 0) e
truth_there other b rs h = cc

-- a name without its place
abbrev unplaced_name : Option (List ℕ) → List ℕ → Tree
unplaced_name o name = elim o [ Some key ↦ tree.ident key 0 | None ↦ tree.variable name 0 ]

name_unplaced : (o : Option (List ℕ)) (name : List ℕ) (at : ℕ) → unplaced (elim o [ Some key ↦ tree.ident key at | None ↦ tree.variable name at ]) ≡ unplaced_name o name
name_unplaced None name at = refl
name_unplaced (Some key) name at = refl

variable_there : (u : Tree) (name : List ℕ) (rs : List Pattern) → as_variable u ≡ Some name → unplaced (keyed u rs) ≡ unplaced_name (key_in name rs) name
variable_there (tree.variable other at) name rs h = let e : other ≡ name = cc in name_unplaced (key_in other rs) other at ∙ ap (λ n. unplaced_name (key_in n rs) n) e
variable_there other name rs h = cc

paren_there : (u f : Tree) (rs : List Pattern) → as_paren u ≡ Some f → unplaced (keyed u rs) ≡ tree.paren (unplaced (keyed f rs)) 0
paren_there (tree.paren e at) f rs h = let s : e ≡ f = cc in ap (λ k. tree.paren (unplaced (keyed k rs)) 0) s
paren_there other f rs h = cc

if_there : (u : Tree) (p : Tree × Tree × Tree) (rs : List Pattern) → as_if u ≡ Some p
    → unplaced (keyed u rs) ≡ tree.if_expr (unplaced (keyed p.0 rs)) (unplaced (keyed p.1 rs)) (unplaced (keyed p.2 rs)) 0
if_there (tree.if_expr a b c at) p rs h =
    let s : (a, b, c) ≡ p = cc in ap (λ k. tree.if_expr (unplaced (keyed k.0 rs)) (unplaced (keyed k.1 rs)) (unplaced (keyed k.2 rs)) 0) s
if_there other p rs h = cc

index_there : (u : Tree) (p : Tree × Tree) (rs : List Pattern) → as_index u ≡ Some p → unplaced (keyed u rs) ≡ tree.index (unplaced (keyed p.0 rs)) (unplaced (keyed p.1 rs)) 0
index_there (tree.index a b at) p rs h = let s : (a, b) ≡ p = cc in ap (λ k. tree.index (unplaced (keyed k.0 rs)) (unplaced (keyed k.1 rs)) 0) s
index_there other p rs h = cc

prefix_there : (u : Tree) (p : PrefixOp × Tree) (rs : List Pattern) → as_prefix u ≡ Some p → unplaced (keyed u rs) ≡ tree.prefix p.0 (unplaced (keyed p.1 rs)) 0
prefix_there (tree.prefix op e at) p rs h = let s : (op, e) ≡ p = cc in ap (λ k. tree.prefix k.0 (unplaced (keyed k.1 rs)) 0) s
prefix_there other p rs h = cc

binary_there : (u : Tree) (p : BinOp × Tree × Tree) (rs : List Pattern) → as_binary u ≡ Some p
    → unplaced (keyed u rs) ≡ tree.binary p.0 (unplaced (keyed p.1 rs)) (unplaced (keyed p.2 rs)) 0
binary_there (tree.binary op l r at) p rs h =
    let s : (op, l, r) ≡ p = cc in ap (λ k. tree.binary k.0 (unplaced (keyed k.1 rs)) (unplaced (keyed k.2 rs)) 0) s
binary_there other p rs h = cc

names_if : (name other : List ℕ) (o p : Option (List ℕ)) → same_names name o other p ≡ true → unplaced_name o name ≡ unplaced_name p other
names_if name other None None h = ap (λ n. tree.variable n 0) (equal_bytes name other h)
names_if name other (Some key) (Some more) h = ap (λ n. tree.ident n 0) (equal_bytes key more h)
names_if name other None (Some more) h = cc
names_if name other (Some key) None h = cc

pub same_if : (t u : Tree) (qs rs : List Pattern) → same t qs u rs ≡ true → IsEqualApart (keyed t qs) (keyed u rs)
same_if (tree.number n at) u qs rs h =
    let f = found (as_number u) (λ m. n == m) h in
    ap (λ k. tree.number k 0) (equal_numbers n f.value f.true_of) ∙ sym (number_there u f.value rs f.is)
same_if (tree.truth b at) u qs rs h =
    let f = found (as_truth u) (λ c. same_truth b c) h in
    ap (λ k. tree.truth k 0) (truths_if b f.value f.true_of) ∙ sym (truth_there u f.value rs f.is)
same_if (tree.variable name at) u qs rs h =
    let f = found (as_variable u) (λ other. same_names name (key_in name qs) other (key_in other rs)) h in
    name_unplaced (key_in name qs) name at ∙ names_if name f.value (key_in name qs) (key_in f.value rs) f.true_of ∙ sym (variable_there u f.value rs f.is)
same_if (tree.paren e at) u qs rs h =
    let f = found (as_paren u) (λ g. same e qs g rs) h in
    ap (λ k. tree.paren k 0) (same_if e f.value qs rs f.true_of) ∙ sym (paren_there u f.value rs f.is)
same_if (tree.if_expr a b c at) u qs rs h =
    let f = found (as_if u) (λ p. (same a qs p.0 rs && same b qs p.1 rs) && same c qs p.2 rs) h in
    let two = two_true (same a qs f.value.0 rs && same b qs f.value.1 rs) (same c qs f.value.2 rs) f.true_of in
    let one = two_true (same a qs f.value.0 rs) (same b qs f.value.1 rs) two.0 in
    rw (same_if a f.value.0 qs rs one.0, same_if b f.value.1 qs rs one.1, same_if c f.value.2 qs rs two.1) (sym (if_there u f.value rs f.is))
same_if (tree.index a b at) u qs rs h =
    let f = found (as_index u) (λ p. same a qs p.0 rs && same b qs p.1 rs) h in
    let two = two_true (same a qs f.value.0 rs) (same b qs f.value.1 rs) f.true_of in
    rw (same_if a f.value.0 qs rs two.0, same_if b f.value.1 qs rs two.1) (sym (index_there u f.value rs f.is))
same_if (tree.prefix op e at) u qs rs h =
    let f = found (as_prefix u) (λ p. (prefix_number op == prefix_number p.0) && same e qs p.1 rs) h in
    let two = two_true (prefix_number op == prefix_number f.value.0) (same e qs f.value.1 rs) f.true_of in
    let op_is : op ≡ f.value.0 = prefix_if op f.value.0 (equal_numbers (prefix_number op) (prefix_number f.value.0) two.0) in
    ap (λ k. tree.prefix k (unplaced (keyed e qs)) 0) op_is ∙ ap (λ k. tree.prefix f.value.0 k 0) (same_if e f.value.1 qs rs two.1) ∙ sym (prefix_there u f.value rs f.is)
same_if (tree.binary op l r at) u qs rs h =
    let f = found (as_binary u) (λ p. ((op_number op == op_number p.0) && same l qs p.1 rs) && same r qs p.2 rs) h in
    let two = two_true ((op_number op == op_number f.value.0) && same l qs f.value.1 rs) (same r qs f.value.2 rs) f.true_of in
    let one = two_true (op_number op == op_number f.value.0) (same l qs f.value.1 rs) two.0 in
    let op_is : op ≡ f.value.0 = op_if op f.value.0 (equal_numbers (op_number op) (op_number f.value.0) one.0) in
    ap (λ k. tree.binary k (unplaced (keyed l qs)) (unplaced (keyed r qs)) 0) op_is
    ∙ ap (λ k. tree.binary f.value.0 k (unplaced (keyed r qs)) 0) (same_if l f.value.1 qs rs one.1)
    ∙ ap (λ k. tree.binary f.value.0 (unplaced (keyed f.value.1 rs)) k 0) (same_if r f.value.2 qs rs two.1)
    ∙ sym (binary_there u f.value rs f.is)
same_if other u qs rs h = cc

-- ---- .. and finds each equal tree

-- what is neither an identifier nor a variable is no name
no_name : (o : Option (List ℕ)) (name : List ℕ) (at : ℕ) (t : Tree) → ((key : List ℕ) → t ≡ tree.ident key 0 → ⊥) → ((other : List ℕ) → t ≡ tree.variable other 0 → ⊥)
    → t ≡ unplaced (elim o [ Some key ↦ tree.ident key at | None ↦ tree.variable name at ]) → ⊥
no_name None name at t p q h = q name h
no_name (Some key) name at t p q h = p key h

names_then : (name other : List ℕ) (o p : Option (List ℕ)) → unplaced_name o name ≡ unplaced_name p other → same_names name o other p ≡ true
names_then name other None None h = let e : name ≡ other = cc in subst (λ n. bytes_eq name n ≡ true) e (equal_bytes_then name)
names_then name other (Some key) (Some more) h = let e : key ≡ more = cc in subst (λ n. bytes_eq key n ≡ true) e (equal_bytes_then key)
names_then name other None (Some more) h = cc
names_then name other (Some key) None h = cc

-- trees of other forms than a name
abbrev IsForm : Tree → Type 0
IsForm t = ((key : List ℕ) → t ≡ tree.ident key 0 → ⊥) × ((other : List ℕ) → t ≡ tree.variable other 0 → ⊥)

pub same_then : (t u : Tree) (qs rs : List Pattern) → IsSimple t → IsSimple u → IsEqualApart (keyed t qs) (keyed u rs) → same t qs u rs ≡ true
same_then (tree.number n at) (tree.number m place) qs rs p q h = let e : n ≡ m = cc in subst (λ k. (n == k) ≡ true) e (equal_numbers_then n)
same_then (tree.number n at) (tree.variable name place) qs rs p q h = absurd (no_name (key_in name rs) name place (tree.number n 0) (λ key e. cc) (λ other e. cc) h)
same_then (tree.number n at) u qs rs p q h = cc
same_then (tree.truth b at) (tree.truth c place) qs rs p q h = let e : b ≡ c = cc in subst (λ k. same_truth b k ≡ true) e (truths_then b)
same_then (tree.truth b at) (tree.variable name place) qs rs p q h = absurd (no_name (key_in name rs) name place (tree.truth b 0) (λ key e. cc) (λ other e. cc) h)
same_then (tree.truth b at) u qs rs p q h = cc
same_then (tree.variable name at) (tree.variable other place) qs rs p q h =
    names_then name other (key_in name qs) (key_in other rs)
    (sym (name_unplaced (key_in name qs) name at) ∙ h ∙ name_unplaced (key_in other rs) other place)
same_then (tree.variable name at) (tree.number n place) qs rs p q h = absurd (no_name (key_in name qs) name at (tree.number n 0) (λ key e. cc) (λ other e. cc) (sym h))
same_then (tree.variable name at) (tree.truth n place) qs rs p q h = absurd (no_name (key_in name qs) name at (tree.truth n 0) (λ key e. cc) (λ other e. cc) (sym h))
same_then (tree.variable name at) (tree.paren f place) qs rs p q h = absurd (no_name (key_in name qs) name at _ (λ key e. cc) (λ other e. cc) (sym h))
same_then (tree.variable name at) (tree.if_expr a b c place) qs rs p q h = absurd (no_name (key_in name qs) name at _ (λ key e. cc) (λ other e. cc) (sym h))
same_then (tree.variable name at) (tree.index a b place) qs rs p q h = absurd (no_name (key_in name qs) name at _ (λ key e. cc) (λ other e. cc) (sym h))
same_then (tree.variable name at) (tree.prefix op f place) qs rs p q h = absurd (no_name (key_in name qs) name at _ (λ key e. cc) (λ other e. cc) (sym h))
same_then (tree.variable name at) (tree.binary op a b place) qs rs p q h = absurd (no_name (key_in name qs) name at _ (λ key e. cc) (λ other e. cc) (sym h))
same_then (tree.variable name at) u qs rs p q h = absurd q
same_then (tree.paren e at) (tree.paren f place) qs rs p q h = let s : unplaced (keyed e qs) ≡ unplaced (keyed f rs) = cc in same_then e f qs rs p q s
same_then (tree.paren e at) (tree.variable name place) qs rs p q h = absurd (no_name (key_in name rs) name place _ (λ key e. cc) (λ other e. cc) h)
same_then (tree.paren e at) u qs rs p q h = cc
same_then (tree.if_expr a b c at) (tree.if_expr d e f place) qs rs p q h =
    let x : unplaced (keyed a qs) ≡ unplaced (keyed d rs) = cc in
    let y : unplaced (keyed b qs) ≡ unplaced (keyed e rs) = cc in
    let z : unplaced (keyed c qs) ≡ unplaced (keyed f rs) = cc in
    both_true (same a qs d rs && same b qs e rs) (same c qs f rs)
    (both_true (same a qs d rs) (same b qs e rs) (same_then a d qs rs p.0 q.0 x) (same_then b e qs rs p.1 q.1 y)) (same_then c f qs rs p.2 q.2 z)
same_then (tree.if_expr a b c at) (tree.variable name place) qs rs p q h = absurd (no_name (key_in name rs) name place _ (λ key e. cc) (λ other e. cc) h)
same_then (tree.if_expr a b c at) u qs rs p q h = cc
same_then (tree.index a b at) (tree.index d e place) qs rs p q h =
    let x : unplaced (keyed a qs) ≡ unplaced (keyed d rs) = cc in
    let y : unplaced (keyed b qs) ≡ unplaced (keyed e rs) = cc in
    both_true (same a qs d rs) (same b qs e rs) (same_then a d qs rs p.0 q.0 x) (same_then b e qs rs p.1 q.1 y)
same_then (tree.index a b at) (tree.variable name place) qs rs p q h = absurd (no_name (key_in name rs) name place _ (λ key e. cc) (λ other e. cc) h)
same_then (tree.index a b at) u qs rs p q h = cc
same_then (tree.prefix op e at) (tree.prefix other f place) qs rs p q h =
    let x : unplaced (keyed e qs) ≡ unplaced (keyed f rs) = cc in
    let o : op ≡ other = cc in
    both_true (prefix_number op == prefix_number other) (same e qs f rs)
    (subst (λ k. (prefix_number op == prefix_number k) ≡ true) o (equal_numbers_then (prefix_number op))) (same_then e f qs rs p q x)
same_then (tree.prefix op e at) (tree.variable name place) qs rs p q h = absurd (no_name (key_in name rs) name place _ (λ key e. cc) (λ other e. cc) h)
same_then (tree.prefix op e at) u qs rs p q h = cc
same_then (tree.binary op a b at) (tree.binary other d e place) qs rs p q h =
    let x : unplaced (keyed a qs) ≡ unplaced (keyed d rs) = cc in
    let y : unplaced (keyed b qs) ≡ unplaced (keyed e rs) = cc in
    let o : op ≡ other = cc in
    both_true ((op_number op == op_number other) && same a qs d rs) (same b qs e rs)
    (both_true (op_number op == op_number other) (same a qs d rs)
    (subst (λ k. (op_number op == op_number k) ≡ true) o (equal_numbers_then (op_number op))) (same_then a d qs rs p.0 q.0 x))
    (same_then b e qs rs p.1 q.1 y)
same_then (tree.binary op a b at) (tree.variable name place) qs rs p q h = absurd (no_name (key_in name rs) name place _ (λ key e. cc) (λ other e. cc) h)
same_then (tree.binary op a b at) u qs rs p q h = cc
same_then t u qs rs p q h = absurd p
