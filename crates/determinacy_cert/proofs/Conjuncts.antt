-- Guards that exclude each other aren't both true.
use Rattle.std.proofs.Common.{◌≡◌, ◌≢◌, ℕ, Bool, true, false, ℤ, pos, ◌≤ℤ◌, ◌<ℤ◌, List, [], ◌∷◌, ◌++◌, refl, sym, ap, ◌∙◌, subst, ⊎_elim}
use Rattle.std.specs.Prelude.{Option, None, Some, if◌then◌else◌, neg_ℤ, int_lt, not}
use Rattle.std.proofs.lemmas.Float.{T_from_true}
use Rattle.std.proofs.lemmas.Bool.Decides.{Decides-int_eq}
use Rattle.std.specs.Int.Signed.{lt_z_yes, lt_z_no}
use Rattle.rvc_base.specs.Arithmetic.{Computed, whole, neg, is_equal, is_below}
use Rattle.rvc_base.specs.Arithmetic as arithmetic
use Rattle.rvc_base.specs.Width.{is_num}
use Rattle.rvc_base.specs.Turns.{max_turns}
use Rattle.cal_ast.specs.declared.expr.PrefixOp.{PrefixOp}
use Rattle.cal_ast.specs.declared.expr.PrefixOp.TheVariants.{Not, Neg, BitNot}
use Rattle.cal_ast.specs.declared.expr.BinOp.{BinOp}
use Rattle.cal_ast.specs.declared.expr.BinOp.TheVariants.{Or, And, BitOr, BitXor, BitAnd, Eq, Ne, Lt, Le, Gt, Ge, Shl, Shr, Add, Sub, Mul, Div, Mod}
use Rattle.cal_ast.specs.Apart.{unplaced}
use Rattle.cal_ast.specs.Tree as tree
use Rattle.cal_ast.specs.Tree.{Tree}
use Rattle.cal_model.specs.Value.{Value, Num, Truth, Items}
use Rattle.cal_model.specs.Outcome.{Out, Gives, Traps, Lacks, Clashes, and_then}
use Rattle.cal_model.specs.Env.{Env}
use Rattle.cal_model.specs.Expression.{Calls, computed, prefixed, of_numbers, applied, with_right, eval}
use Rattle.cal_model.specs.Actor.{Pattern, Action, Actor}
use Rattle.cal_model.specs.Selection.{State, seen_by, Guards, AreTrue, guard_then, guards_say}
use Rattle.cal_model.specs.Sound.{Each}
use Rattle.cal_model.specs.Certified.{key_in, keyed, conjuncts, all_conjuncts, literal, Holds, is_comparison, Compares, CompareApart, IsNotOf, Exclude, AnyOf, GuardsExclude, IsBare}
use Rattle.determinacy_cert.proofs.Excluding.{values_alike}

-- it is true, with some turns left before and after
abbrev pub IsTrueAt : Tree → Calls → Env → Type 0
IsTrueAt c calls env = (i : ℕ) × (j : ℕ) × (eval c calls env i ≡ Gives (Truth true) j)

-- ---- conjuncts of what is true are true

-- what comes behind something that gives
pub record Given {A B : Type 0} (o : Out A) (f : A → ℕ → Out B) (b : B) (j : ℕ) : Type 0 where
  pub first : A
  pub left : ℕ
  pub gives : o ≡ Gives first left
  pub others : f first left ≡ Gives b j

pub given : {A B : Type 0} (o : Out A) (f : A → ℕ → Out B) (b : B) (j : ℕ) → and_then o f ≡ Gives b j → Given o f b j
given (Gives a m) f b j h = record { first = a; left = m; gives = refl; others = h }
given (Traps c) f b j h = cc
given Lacks f b j h = cc
given Clashes f b j h = cc

true_and : (v : Value) (r : ℕ → Out Value) (m j : ℕ) → with_right And v r m ≡ Gives (Truth true) j → (v ≡ Truth true) × ((k : ℕ) × (r m ≡ Gives (Truth true) k))
true_and (Truth false) r m j h = cc
true_and (Truth true) r m j h =
    let g : Given (r m) (λ w k. applied And (Truth true) w k) (Truth true) j = given (r m) (λ w k. applied And (Truth true) w k) (Truth true) j h in
    (refl, go g.first g.left g.gives g.others)
  where
    go : (w : Value) (k : ℕ) → r m ≡ Gives w k → applied And (Truth true) w k ≡ Gives (Truth true) j → (n : ℕ) × (r m ≡ Gives (Truth true) n)
    go (Truth true) k is h = (k, is)
    go (Truth false) k is h = cc
    go (Num z) k is h = cc
    go (Items vs) k is h = cc
true_and (Num z) r m j h =
    let g : Given (r m) (λ w k. applied And (Num z) w k) (Truth true) j = given (r m) (λ w k. applied And (Num z) w k) (Truth true) j h in
    absurd (go g.first g.left g.others)
  where
    go : (w : Value) (k : ℕ) → applied And (Num z) w k ≡ Gives (Truth true) j → ⊥
    go (Truth b) k h = cc
    go (Num a) k h = cc
    go (Items vs) k h = cc
true_and (Items vs) r m j h =
    let g : Given (r m) (λ w k. applied And (Items vs) w k) (Truth true) j = given (r m) (λ w k. applied And (Items vs) w k) (Truth true) j h in
    absurd (go g.first g.left g.others)
  where
    go : (w : Value) (k : ℕ) → applied And (Items vs) w k ≡ Gives (Truth true) j → ⊥
    go (Truth b) k h = cc
    go (Num a) k h = cc
    go (Items ws) k h = cc

both_each : {A : Type 0} (P : A → Type 0) (xs ys : List A) → Each P xs → Each P ys → Each P (xs ++ ys)
both_each P [] ys p q = q
both_each P (x ∷ xs) ys p q = (p.0, both_each P xs ys p.1 q)

pub conjuncts_true : (g : Tree) (calls : Calls) (env : Env) (m j : ℕ) → eval g calls env m ≡ Gives (Truth true) j → Each (λ c. IsTrueAt c calls env) (conjuncts g)
conjuncts_true (tree.binary And l r at) calls env m j h =
    let g : Given (eval l calls env m) (λ v i. with_right And v (λ k. eval r calls env k) i) (Truth true) j = given (eval l calls env m) _ (Truth true) j h in
    let parts = true_and g.first (λ k. eval r calls env k) g.left j g.others in
    both_each (λ c. IsTrueAt c calls env) (conjuncts l) (conjuncts r)
    (conjuncts_true l calls env m g.left (g.gives ∙ ap (λ v. Gives v g.left) parts.0)) (conjuncts_true r calls env g.left parts.1.0 parts.1.1)
conjuncts_true g calls env m j h = ((m, j, h), tt)

conjuncts_bare : (g : Tree) → IsBare g → Each IsBare (conjuncts g)
conjuncts_bare (tree.binary And l r at) h = both_each IsBare (conjuncts l) (conjuncts r) (conjuncts_bare l h.0) (conjuncts_bare r h.1)
conjuncts_bare g h = (h, tt)

-- each guard, and so each conjunct, of guards that are true
pub guards_true : (gs : List Tree) (calls : Calls) (env : Env) → guards_say gs calls env ≡ AreTrue → Each (λ c. IsTrueAt c calls env) (all_conjuncts gs)
guards_true [] calls env h = tt
guards_true (g ∷ gs) calls env h =
    let parts = first (eval g calls env max_turns) (guards_say gs calls env) h in
    both_each (λ c. IsTrueAt c calls env) (conjuncts g) (all_conjuncts gs) (conjuncts_true g calls env max_turns parts.0.0 parts.0.1) (guards_true gs calls env parts.1)
  where
    first : (o : Out Value) (others : Guards) → guard_then o others ≡ AreTrue → ((j : ℕ) × (o ≡ Gives (Truth true) j)) × (others ≡ AreTrue)
    first (Gives (Truth true) j) others h = ((j, refl), h)
    first (Gives (Truth false) j) others h = cc
    first (Gives (Num z) j) others h = cc
    first (Gives (Items vs) j) others h = cc
    first (Traps c) others h = cc
    first Lacks others h = cc
    first Clashes others h = cc

pub guards_bare : (gs : List Tree) → Each IsBare gs → Each IsBare (all_conjuncts gs)
guards_bare [] h = tt
guards_bare (g ∷ gs) h = both_each IsBare (conjuncts g) (all_conjuncts gs) (conjuncts_bare g h.0) (guards_bare gs h.1)

-- ---- comparisons with numbers

-- a name is keyed as an identifier or a name
keyed_name_not : (o : Option (List ℕ)) (name : List ℕ) (at : ℕ) (t : Tree) → ((key : List ℕ) (place : ℕ) → t ≡ tree.ident key place → ⊥) → ((other : List ℕ) (place : ℕ) → t ≡ tree.variable other place → ⊥)
    → elim o [ Some key ↦ tree.ident key at | None ↦ tree.variable name at ] ≡ t → ⊥
keyed_name_not None name at t p q h = q name at (sym h)
keyed_name_not (Some key) name at t p q h = p key at (sym h)

record IsBinary (c : Tree) (qs : List Pattern) (op : BinOp) (e f : Tree) : Type 0 where
  left : Tree
  right : Tree
  at : ℕ
  is : c ≡ tree.binary op left right at
  keyed_left : keyed left qs ≡ e
  keyed_right : keyed right qs ≡ f

binary_parts : (op other : BinOp) (a b e f : Tree) (at place : ℕ) → tree.binary other a b at ≡ tree.binary op e f place → (other ≡ op) × (a ≡ e) × (b ≡ f)
binary_parts op other a b e f at place h = (cc, cc, cc)

-- what is keyed as an operation is one
is_binary : (c : Tree) (qs : List Pattern) (op : BinOp) (e f : Tree) (place : ℕ) → keyed c qs ≡ tree.binary op e f place → IsBinary c qs op e f
is_binary (tree.binary other l r at) qs op e f place h =
    let parts = binary_parts op other (keyed l qs) (keyed r qs) e f at place h in
    record { left = l; right = r; at = at; is = ap (λ o. tree.binary o l r at) parts.0; keyed_left = parts.1; keyed_right = parts.2 }
is_binary (tree.variable name at) qs op e f place h = absurd (keyed_name_not (key_in name qs) name at (tree.binary op e f place) (λ key p k. cc) (λ other p k. cc) h)
is_binary c qs op e f place h = cc

record IsPrefix (c : Tree) (qs : List Pattern) (op : PrefixOp) (e : Tree) : Type 0 where
  inner : Tree
  at : ℕ
  is : c ≡ tree.prefix op inner at
  keyed_inner : keyed inner qs ≡ e

prefix_parts : (op other : PrefixOp) (a e : Tree) (at place : ℕ) → tree.prefix other a at ≡ tree.prefix op e place → (other ≡ op) × (a ≡ e)
prefix_parts op other a e at place h = (cc, cc)

is_prefix : (c : Tree) (qs : List Pattern) (op : PrefixOp) (e : Tree) (place : ℕ) → keyed c qs ≡ tree.prefix op e place → IsPrefix c qs op e
is_prefix (tree.prefix other a at) qs op e place h =
    let parts = prefix_parts op other (keyed a qs) e at place h in
    record { inner = a; at = at; is = ap (λ o. tree.prefix o a at) parts.0; keyed_inner = parts.1 }
is_prefix (tree.variable name at) qs op e place h = absurd (keyed_name_not (key_in name qs) name at (tree.prefix op e place) (λ key p k. cc) (λ other p k. cc) h)
is_prefix c qs op e place h = cc

name_no_literal : (o : Option (List ℕ)) (name : List ℕ) (at : ℕ) (n : ℤ) → literal (elim o [ Some key ↦ tree.ident key at | None ↦ tree.variable name at ]) ≡ Some n → ⊥
name_no_literal None name at n h = cc
name_no_literal (Some key) name at n h = cc

name_no_negative : (o : Option (List ℕ)) (name : List ℕ) (at place : ℕ) (n : ℤ) → literal (tree.prefix Neg (elim o [ Some key ↦ tree.ident key at | None ↦ tree.variable name at ]) place) ≡ Some n → ⊥
name_no_negative None name at place n h = cc
name_no_negative (Some key) name at place n h = cc

-- what is keyed as a literal is that literal
literal_is : (r : Tree) (qs : List Pattern) (n : ℤ) → literal (keyed r qs) ≡ Some n → literal r ≡ Some n
literal_is (tree.number m at) qs n h = h
literal_is (tree.prefix Neg (tree.number m place) at) qs n h = h
literal_is (tree.prefix Neg (tree.variable name place) at) qs n h = absurd (name_no_negative (key_in name qs) name place at n h)
literal_is (tree.prefix Neg e at) qs n h = cc
literal_is (tree.prefix Not e at) qs n h = cc
literal_is (tree.prefix BitNot e at) qs n h = cc
literal_is (tree.variable name at) qs n h = absurd (name_no_literal (key_in name qs) name at n h)
literal_is r qs n h = cc

-- .. and has its value
whole_is : (b : Bool) (z : ℤ) (v : Value) (i j : ℕ) → computed (if b then arithmetic.Gives z else arithmetic.Traps Rattle.rvc_base.specs.declared.trap.Trap.TheVariants.Overflow) i ≡ Gives v j → v ≡ Num z
whole_is true z v i j h = cc
whole_is false z v i j h = cc

negative_is : (b : Bool) (m : ℕ) (v : Value) (i j : ℕ)
    → and_then (computed (if b then arithmetic.Gives (pos m) else arithmetic.Traps Rattle.rvc_base.specs.declared.trap.Trap.TheVariants.Overflow) i) (λ w k. prefixed Neg w k) ≡ Gives v j → v ≡ Num (neg_ℤ (pos m))
negative_is true m v i j h = whole_is (is_num (neg_ℤ (pos m))) (neg_ℤ (pos m)) v i j h
negative_is false m v i j h = cc

some_number : (a n : ℤ) → Some a ≡ Some n → a ≡ n
some_number a n h = cc

none_some : (n : ℤ) → None ≡ Some n → ⊥
none_some n h = cc

literal_value : (r : Tree) (n : ℤ) (calls : Calls) (env : Env) (v : Value) (i j : ℕ) → literal r ≡ Some n → eval r calls env i ≡ Gives v j → v ≡ Num n
literal_value (tree.number m at) n calls env v i j l h = whole_is (is_num (pos m)) (pos m) v i j h ∙ ap Num (some_number (pos m) n l)
literal_value (tree.prefix Neg (tree.number m place) at) n calls env v i j l h = negative_is (is_num (pos m)) m v i j h ∙ ap Num (some_number (neg_ℤ (pos m)) n l)
literal_value r n calls env v i j l h = absurd (none_some n l)

equal_is : (a b : ℤ) → is_equal a b ≡ true → a ≡ b
equal_is a b h = (Decides-int_eq a b).0 h

not_equal_is : (a b : ℤ) → not (is_equal a b) ≡ true → a ≢ b
not_equal_is a b h same =
    let yes_it_is : is_equal a b ≡ true = (Decides-int_eq a b).1 same in
    let no : not true ≡ true = subst (λ t. not t ≡ true) yes_it_is h in cc

below_is : (a b : ℤ) → is_below a b ≡ true → a <ℤ b
below_is a b h = lt_z_yes (T_from_true (int_lt a b) h)

not_below_is : (a b : ℤ) → not (is_below a b) ≡ true → b ≤ℤ a
not_below_is a b h = lt_z_no (T_from_true (not (int_lt a b)) h)

truth_is : (b : Bool) (m j : ℕ) → Gives (Truth b) m ≡ Gives (Truth true) j → b ≡ true
truth_is b m j h = cc

-- a comparison that is true holds
holds_so : (op : BinOp) (a b : ℤ) (m j : ℕ) → is_comparison op ≡ true → of_numbers op a b m ≡ Gives (Truth true) j → Holds op a b
holds_so Eq a b m j c h = equal_is a b (truth_is (is_equal a b) m j h)
holds_so Ne a b m j c h = not_equal_is a b (truth_is (not (is_equal a b)) m j h)
holds_so Lt a b m j c h = below_is a b (truth_is (is_below a b) m j h)
holds_so Le a b m j c h = not_below_is b a (truth_is (not (is_below b a)) m j h)
holds_so Gt a b m j c h = below_is b a (truth_is (is_below b a) m j h)
holds_so Ge a b m j c h = not_below_is a b (truth_is (not (is_below a b)) m j h)
holds_so Add a b m j c h = cc
holds_so Sub a b m j c h = cc
holds_so Mul a b m j c h = cc
holds_so Div a b m j c h = cc
holds_so Mod a b m j c h = cc
holds_so Shl a b m j c h = cc
holds_so Shr a b m j c h = cc
holds_so BitAnd a b m j c h = cc
holds_so BitOr a b m j c h = cc
holds_so BitXor a b m j c h = cc
holds_so And a b m j c h = cc
holds_so Or a b m j c h = cc

-- of a comparison nothing is decided by the left side alone
right_is : (op : BinOp) (v : Value) (r : ℕ → Out Value) (m : ℕ) → is_comparison op ≡ true → with_right op v r m ≡ and_then (r m) (λ w k. applied op v w k)
right_is Eq v r m c = refl
right_is Ne v r m c = refl
right_is Lt v r m c = refl
right_is Le v r m c = refl
right_is Gt v r m c = refl
right_is Ge v r m c = refl
right_is Add v r m c = refl
right_is Sub v r m c = refl
right_is Mul v r m c = refl
right_is Div v r m c = refl
right_is Mod v r m c = refl
right_is Shl v r m c = refl
right_is Shr v r m c = refl
right_is BitAnd v r m c = refl
right_is BitOr v r m c = refl
right_is BitXor v r m c = refl
right_is And v r m c = cc
right_is Or v r m c = cc

-- the left side of a comparison with a number, if the comparison is true
pub record Compared (op : BinOp) (l : Tree) (n : ℤ) (calls : Calls) (env : Env) : Type 0 where
  pub value : ℤ
  pub before : ℕ
  pub after : ℕ
  pub gives : eval l calls env before ≡ Gives (Num value) after
  pub holds : Holds op value n

compared : (op : BinOp) (l r : Tree) (n : ℤ) (at : ℕ) (calls : Calls) (env : Env) (i j : ℕ) → is_comparison op ≡ true → literal r ≡ Some n
    → eval (tree.binary op l r at) calls env i ≡ Gives (Truth true) j → Compared op l n calls env
compared op l r n at calls env i j c lit h =
    let g : Given (eval l calls env i) (λ v k. with_right op v (λ m. eval r calls env m) k) (Truth true) j = given (eval l calls env i) _ (Truth true) j h in
    let f : Given (eval r calls env g.left) (λ w k. applied op g.first w k) (Truth true) j =
    given (eval r calls env g.left) (λ w k. applied op g.first w k) (Truth true) j (sym (right_is op g.first (λ m. eval r calls env m) g.left c) ∙ g.others) in
    let number : f.first ≡ Num n = literal_value r n calls env f.first g.left f.left lit f.gives in
    go g.first g.left g.gives f.left (subst (λ w. applied op g.first w f.left ≡ Gives (Truth true) j) number f.others)
  where
    go : (v : Value) (k : ℕ) → eval l calls env i ≡ Gives v k → (m : ℕ) → applied op v (Num n) m ≡ Gives (Truth true) j → Compared op l n calls env
    go (Num z) k is m h = record { value = z; before = i; after = k; gives = is; holds = holds_so op z n m j c h }
    go (Truth b) k is m h = cc
    go (Items vs) k is m h = cc

-- a conjunct that is `e op n` once it is keyed, and is true
pub record IsCompared (c e : Tree) (op : BinOp) (n : ℤ) (qs : List Pattern) (calls : Calls) (env : Env) : Type 0 where
  pub left : Tree
  pub keyed_left : keyed left qs ≡ e
  pub bare : IsBare left
  pub compared : Compared op left n calls env

is_compared : (c e : Tree) (op : BinOp) (n : ℤ) (qs : List Pattern) (calls : Calls) (env : Env) → IsBare c → Compares (keyed c qs) e op n → IsTrueAt c calls env → IsCompared c e op n qs calls env
is_compared c e op n qs calls env bare compares holds =
    let b : IsBinary c qs op e compares.right = is_binary c qs op e compares.right compares.at compares.is in
    let lit : literal b.right ≡ Some n = literal_is b.right qs n (ap literal b.keyed_right ∙ compares.number) in
    record {
      left = b.left;
      keyed_left = b.keyed_left;
      bare = (subst (λ t. IsBare t) b.is bare).0;
      compared = compared op b.left b.right n b.at calls env holds.0 holds.1 compares.comparison lit
          (subst (λ t. eval t calls env holds.0 ≡ Gives (Truth true) holds.1) b.is holds.2);
    }

number_of : (a b : ℤ) → Num a ≡ Num b → a ≡ b
number_of a b h = cc

not_true : (v : Value) (m j : ℕ) → prefixed Not v m ≡ Gives (Truth true) j → v ≡ Truth false
not_true (Truth false) m j h = refl
not_true (Truth true) m j h = cc
not_true (Num z) m j h = cc
not_true (Items vs) m j h = cc

false_is_true : Truth true ≡ Truth false → ⊥
false_is_true h = cc

-- ---- conjuncts that exclude each other

compare_apart : (actor : Actor) (x : State) (u : List (List ℤ)) (one two : Action) (calls : Calls) (c d : Tree) → IsBare c → IsBare d
    → IsTrueAt c calls (seen_by actor x u one) → IsTrueAt d calls (seen_by actor x u two) → CompareApart (keyed c one.patterns) (keyed d two.patterns) → ⊥
compare_apart actor x u one two calls c d bc bd tc td apart =
    let a = is_compared c apart.left apart.one_op apart.n one.patterns calls (seen_by actor x u one) bc apart.one tc in
    let b = is_compared d apart.other apart.other_op apart.m two.patterns calls (seen_by actor x u two) bd apart.two td in
    let same : Num a.compared.value ≡ Num b.compared.value =
    values_alike actor x u one two a.left b.left a.compared.before b.compared.before a.bare b.bare
    (ap unplaced a.keyed_left ∙ apart.same ∙ sym (ap unplaced b.keyed_left)) calls
    (Num a.compared.value) (Num b.compared.value) a.compared.after b.compared.after a.compared.gives b.compared.gives in
    apart.never a.compared.value a.compared.holds
    (subst (λ z. Holds apart.other_op z apart.m) (sym (number_of a.compared.value b.compared.value same)) b.compared.holds)

is_not_of : (actor : Actor) (x : State) (u : List (List ℤ)) (one two : Action) (calls : Calls) (c d : Tree) → IsBare c → IsBare d
    → IsTrueAt c calls (seen_by actor x u one) → IsTrueAt d calls (seen_by actor x u two) → IsNotOf (keyed c one.patterns) (keyed d two.patterns) → ⊥
is_not_of actor x u one two calls c d bc bd tc td apart =
    let p = is_prefix d two.patterns Not apart.inner apart.at apart.is in
    let there : Env = seen_by actor x u two in
    let g : Given (eval p.inner calls there td.0) (λ v k. prefixed Not v k) (Truth true) td.1 =
    given (eval p.inner calls there td.0) (λ v k. prefixed Not v k) (Truth true) td.1 (subst (λ t. eval t calls there td.0 ≡ Gives (Truth true) td.1) p.is td.2) in
    let no : g.first ≡ Truth false = not_true g.first g.left td.1 g.others in
    let same : Truth true ≡ g.first =
    values_alike actor x u one two c p.inner tc.0 td.0 bc (subst (λ t. IsBare t) p.is bd) (apart.same ∙ sym (ap unplaced p.keyed_inner)) calls
    (Truth true) g.first tc.1 g.left tc.2 g.gives in
    false_is_true (same ∙ no)

exclude_so : (actor : Actor) (x : State) (u : List (List ℤ)) (one two : Action) (calls : Calls) (c d : Tree) → IsBare c → IsBare d
    → IsTrueAt c calls (seen_by actor x u one) → IsTrueAt d calls (seen_by actor x u two) → Exclude (keyed c one.patterns) (keyed d two.patterns) → ⊥
exclude_so actor x u one two calls c d bc bd tc td exclude =
    ⊎_elim (compare_apart actor x u one two calls c d bc bd tc td)
    (⊎_elim (is_not_of actor x u one two calls c d bc bd tc td) (is_not_of actor x u two one calls d c bd bc td tc)) exclude

any_of : {A : Type 0} (P Q R : A → Type 0) (xs : List A) → Each P xs → Each Q xs → AnyOf R xs → ((a : A) → P a → Q a → R a → ⊥) → ⊥
any_of P Q R [] p q r f = r
any_of P Q R (x ∷ xs) p q r f = ⊎_elim (f x p.0 q.0) (λ more. any_of P Q R xs p.1 q.1 more f) r

-- guards that exclude each other aren't both true over the same state and tokens
pub guards_exclude : (actor : Actor) (x : State) (u : List (List ℤ)) (one two : Action) (calls : Calls) → Each IsBare one.guards → Each IsBare two.guards
    → guards_say one.guards calls (seen_by actor x u one) ≡ AreTrue → guards_say two.guards calls (seen_by actor x u two) ≡ AreTrue → GuardsExclude one two → ⊥
guards_exclude actor x u one two calls bone btwo tone ttwo exclude =
    any_of IsBare (λ c. IsTrueAt c calls (seen_by actor x u one)) _ (all_conjuncts one.guards)
    (guards_bare one.guards bone) (guards_true one.guards calls (seen_by actor x u one) tone) exclude
    (λ c bc tc others. any_of IsBare (λ d. IsTrueAt d calls (seen_by actor x u two)) _ (all_conjuncts two.guards)
    (guards_bare two.guards btwo) (guards_true two.guards calls (seen_by actor x u two) ttwo) others
    (λ d bd td. exclude_so actor x u one two calls c d bc bd tc td))
