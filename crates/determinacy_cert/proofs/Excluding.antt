-- Conjuncts that exclude each other aren't both true over the same tokens.
use Rattle.std.proofs.Common.{◌≡◌, ℕ, zero, suc, ◌+◌, Bool, true, false, ℤ, pos, negsuc, List, [], ◌∷◌, ◌++◌, length, refl, sym, ap, ◌∙◌, subst}
use Rattle.std.specs.Prelude.{Option, None, Some, if◌then◌else◌, not, option_map}
use Rattle.std.specs.Str.{bytes_eq}
use Rattle.rvc_base.specs.declared.scalar.Scalar.{Scalar}
use Rattle.rvc_base.specs.Arithmetic.{Computed, whole, truth}
use Rattle.rvc_base.specs.Arithmetic as arithmetic
use Rattle.cal_ast.specs.declared.expr.PrefixOp.{PrefixOp}
use Rattle.cal_ast.specs.declared.expr.PrefixOp.TheVariants.{Not, Neg, BitNot}
use Rattle.cal_ast.specs.declared.expr.BinOp.{BinOp}
use Rattle.cal_ast.specs.declared.expr.BinOp.TheVariants.{Or, And, BitOr, BitXor, BitAnd, Eq, Ne, Lt, Le, Gt, Ge, Shl, Shr, Add, Sub, Mul, Div, Mod}
use Rattle.cal_ast.specs.Apart.{unplaced, IsEqualApart}
use Rattle.cal_ast.specs.Tree as tree
use Rattle.cal_ast.specs.Tree.{Tree}
use Rattle.cal_model.specs.Value.{Value, Num, Truth, Items, Values, Nil, Cons, value_at}
use Rattle.cal_model.specs.Outcome.{Out, Gives, Traps, Lacks, Clashes, and_then, known}
use Rattle.cal_model.specs.Env.{Var, Env, find, look_up}
use Rattle.cal_model.specs.Expression.{Calls, computed, prefixed, of_numbers, of_truths, applied, with_right, chosen, eval, eval_all}
use Rattle.cal_model.specs.Expression as expression
use Rattle.cal_model.specs.Actor.{Pattern, Action, Actor}
use Rattle.cal_model.specs.Selection.{State, tokens_on, kind_of_port, token, tokens_from, pattern_value, pattern_vars_from, pattern_vars, seen_by}
use Rattle.cal_model.specs.Certified.{places_from, token_key, key_among, key_in, keyed_name, keyed, IsBare}

-- ---- what a key stands for

-- the tokens at these places
abbrev pub at_places : Scalar → List ℤ → List ℕ → Values
at_places t us [] = Nil
at_places t us (k ∷ ks) = Cons (token t us k) (at_places t us ks)

abbrev pub key_value : Actor → List (List ℤ) → List ℕ → Value
key_value actor u (zero ∷ port ∷ k ∷ []) = token (kind_of_port actor.ins port) (tokens_on u port) k
key_value actor u (suc zero ∷ port ∷ places) = Items (at_places (kind_of_port actor.ins port) (tokens_on u port) places)
key_value actor u other = Items Nil

places_same : (t : Scalar) (us : List ℤ) (n k far : ℕ) → tokens_from t us n k far ≡ at_places t us (places_from n k far)
places_same t us zero k far = refl
places_same t us (suc n) k far = ap (Cons (token t us k)) (places_same t us n (k + far) far)

key_is : (actor : Actor) (u : List (List ℤ)) (port : ℕ) (repeat : Option ℕ) (names k : ℕ)
    → pattern_value (kind_of_port actor.ins port) (tokens_on u port) repeat names k ≡ key_value actor u (token_key port repeat names k)
key_is actor u port None names k = refl
key_is actor u port (Some n) names k = ap Items (places_same (kind_of_port actor.ins port) (tokens_on u port) n k names)

-- a name among variables, and then among others
either_found : (name : List ℕ) (xs ys : List Var) → find name (xs ++ ys) ≡ elim (find name xs) [ None ↦ find name ys | Some v ↦ Some v ]
either_found name [] ys = refl
either_found name (x ∷ xs) ys = go (bytes_eq x.name name) (either_found name xs ys)
  where
    go : (b : Bool) → find name (xs ++ ys) ≡ elim (find name xs) [ None ↦ find name ys | Some v ↦ Some v ]
        → ◌≡◌ {A = Option Value} (if b then Some x.value else find name (xs ++ ys)) (elim (if b then Some x.value else find name xs) [ None ↦ find name ys | Some v ↦ Some v ])
    go true h = refl
    go false h = h

-- the value under a pattern variable is that of its key
among_is : (actor : Actor) (u : List (List ℤ)) (name : List ℕ) (q : Pattern) (k : ℕ) (names : List (List ℕ))
    → find name (pattern_vars_from (kind_of_port actor.ins q.port) (tokens_on u q.port) q k names) ≡ option_map (key_value actor u) (key_among name q k names)
among_is actor u name q k [] = refl
among_is actor u name q k (other ∷ names) =
    either_found name (pattern_vars_from (kind_of_port actor.ins q.port) (tokens_on u q.port) q (suc k) names) _
    ∙ go (find name (pattern_vars_from (kind_of_port actor.ins q.port) (tokens_on u q.port) q (suc k) names)) (key_among name q (suc k) names) (among_is actor u name q (suc k) names)
  where
    last : (b : Bool) → ◌≡◌ {A = Option Value} (if b then Some (pattern_value (kind_of_port actor.ins q.port) (tokens_on u q.port) q.repeat (length q.names) k) else None)
        (option_map (key_value actor u) (if b then Some (token_key q.port q.repeat (length q.names) k) else None))
    last true = ap (λ v. Some v) (key_is actor u q.port q.repeat (length q.names) k)
    last false = refl

    go : (o : Option Value) (p : Option (List ℕ)) → o ≡ option_map (key_value actor u) p
        → ◌≡◌ {A = Option Value} (elim o [ None ↦ if bytes_eq other name then Some (pattern_value (kind_of_port actor.ins q.port) (tokens_on u q.port) q.repeat (length q.names) k) else None | Some v ↦ Some v ])
        (option_map (key_value actor u) (elim p [ Some key ↦ Some key | None ↦ if bytes_eq other name then Some (token_key q.port q.repeat (length q.names) k) else None ]))
    go None None h = last (bytes_eq other name)
    go None (Some key) h = cc
    go (Some v) None h = cc
    go (Some v) (Some key) h = h

pub keys_found : (actor : Actor) (u : List (List ℤ)) (name : List ℕ) (qs : List Pattern) → find name (pattern_vars actor u qs) ≡ option_map (key_value actor u) (key_in name qs)
keys_found actor u name [] = refl
keys_found actor u name (q ∷ qs) =
    either_found name (pattern_vars actor u qs) (pattern_vars_from (kind_of_port actor.ins q.port) (tokens_on u q.port) q 0 q.names)
    ∙ go (find name (pattern_vars actor u qs)) (key_in name qs) (keys_found actor u name qs)
  where
    go : (o : Option Value) (p : Option (List ℕ)) → o ≡ option_map (key_value actor u) p
        → ◌≡◌ {A = Option Value} (elim o [ None ↦ find name (pattern_vars_from (kind_of_port actor.ins q.port) (tokens_on u q.port) q 0 q.names) | Some v ↦ Some v ])
        (option_map (key_value actor u) (elim p [ Some key ↦ Some key | None ↦ key_among name q 0 q.names ]))
    go None None h = among_is actor u name q 0 q.names
    go None (Some key) h = cc
    go (Some v) None h = cc
    go (Some v) (Some key) h = h

-- ---- what a guard sees

-- the value under a name is that of its key, or the actor's variable
pub look_up_is : (actor : Actor) (x : State) (u : List (List ℤ)) (act : Action) (name : List ℕ)
    → look_up name (seen_by actor x u act) ≡ elim (option_map (key_value actor u) (key_in name act.patterns)) [ None ↦ find name x.vars | Some v ↦ Some v ]
look_up_is actor x u act name =
    either_found name (pattern_vars actor u act.patterns) x.vars
    ∙ ap (λ o. elim o [ None ↦ find name x.vars | Some v ↦ Some v ]) (keys_found actor u name act.patterns)

-- ---- outcomes that give the same if both give something

abbrev pub Alike : {A : Type 0} → Out A → Out A → Type 0
Alike {A} o p = (v w : A) (i j : ℕ) → o ≡ Gives v i → p ≡ Gives w j → v ≡ w

gives_is : {A : Type 0} (a v : A) (m i : ℕ) → Gives a m ≡ Gives v i → a ≡ v
gives_is a v m i h = cc

alike_gives : {A : Type 0} (a : A) (m k : ℕ) → Alike (Gives a m) (Gives a k)
alike_gives a m k v w i j p q = sym (gives_is a v m i p) ∙ gives_is a w k j q

alike_traps : {A : Type 0} (c : Rattle.rvc_base.specs.declared.trap.Trap.Trap) (o : Out A) → Alike (Traps c) o
alike_traps c o v w i j p q = cc

alike_lacks : {A : Type 0} (o : Out A) → Alike Lacks o
alike_lacks o v w i j p q = cc

alike_clashes : {A : Type 0} (o : Out A) → Alike Clashes o
alike_clashes o v w i j p q = cc

traps_alike : {A : Type 0} (o : Out A) (c : Rattle.rvc_base.specs.declared.trap.Trap.Trap) → Alike o (Traps c)
traps_alike o c v w i j p q = cc

lacks_alike : {A : Type 0} (o : Out A) → Alike o Lacks
lacks_alike o v w i j p q = cc

clashes_alike : {A : Type 0} (o : Out A) → Alike o Clashes
clashes_alike o v w i j p q = cc

then_alike : {A B : Type 0} (o p : Out A) (f g : A → ℕ → Out B) → Alike o p → ((a : A) (m k : ℕ) → Alike (f a m) (g a k)) → Alike (and_then o f) (and_then p g)
then_alike (Gives a m) (Gives b k) f g h n =
    subst (λ c. Alike (f a m) (g c k)) (h a b m k refl refl) (n a m k)
then_alike (Gives a m) (Traps c) f g h n = traps_alike (f a m) c
then_alike (Gives a m) Lacks f g h n = lacks_alike (f a m)
then_alike (Gives a m) Clashes f g h n = clashes_alike (f a m)
then_alike (Traps c) p f g h n = alike_traps c (and_then p g)
then_alike Lacks p f g h n = alike_lacks (and_then p g)
then_alike Clashes p f g h n = alike_clashes (and_then p g)

computed_alike : (c : Computed) (m k : ℕ) → Alike (computed c m) (computed c k)
computed_alike (arithmetic.Gives z) m k = alike_gives (Num z) m k
computed_alike (arithmetic.Traps t) m k = alike_traps t (Traps t)

prefixed_alike : (op : PrefixOp) (v : Value) (m k : ℕ) → Alike (prefixed op v m) (prefixed op v k)
prefixed_alike Not (Truth b) m k = alike_gives (Truth (not b)) m k
prefixed_alike Not (Num a) m k = alike_clashes Clashes
prefixed_alike Not (Items vs) m k = alike_clashes Clashes
prefixed_alike Neg (Num a) m k = computed_alike (arithmetic.neg a) m k
prefixed_alike Neg (Truth b) m k = alike_clashes Clashes
prefixed_alike Neg (Items vs) m k = alike_clashes Clashes
prefixed_alike BitNot (Num a) m k = alike_gives (Num (arithmetic.bit_not a)) m k
prefixed_alike BitNot (Truth b) m k = alike_clashes Clashes
prefixed_alike BitNot (Items vs) m k = alike_clashes Clashes

numbers_alike : (op : BinOp) (a b : ℤ) (m k : ℕ) → Alike (of_numbers op a b m) (of_numbers op a b k)
numbers_alike Add a b m k = computed_alike (arithmetic.add a b) m k
numbers_alike Sub a b m k = computed_alike (arithmetic.sub a b) m k
numbers_alike Mul a b m k = computed_alike (arithmetic.mul a b) m k
numbers_alike Div a b m k = computed_alike (arithmetic.div a b) m k
numbers_alike Mod a b m k = computed_alike (arithmetic.rem a b) m k
numbers_alike Shl a b m k = computed_alike (arithmetic.shl a b) m k
numbers_alike Shr a b m k = computed_alike (arithmetic.shr a b) m k
numbers_alike BitAnd a b m k = alike_gives _ m k
numbers_alike BitOr a b m k = alike_gives _ m k
numbers_alike BitXor a b m k = alike_gives _ m k
numbers_alike Eq a b m k = alike_gives _ m k
numbers_alike Ne a b m k = alike_gives _ m k
numbers_alike Lt a b m k = alike_gives _ m k
numbers_alike Le a b m k = alike_gives _ m k
numbers_alike Gt a b m k = alike_gives _ m k
numbers_alike Ge a b m k = alike_gives _ m k
numbers_alike And a b m k = alike_clashes Clashes
numbers_alike Or a b m k = alike_clashes Clashes

truths_alike : (op : BinOp) (a b : Bool) (m k : ℕ) → Alike (of_truths op a b m) (of_truths op a b k)
truths_alike And a b m k = alike_gives _ m k
truths_alike Or a b m k = alike_gives _ m k
truths_alike Eq a b m k = alike_gives _ m k
truths_alike Ne a b m k = alike_gives _ m k
truths_alike op a b m k = alike_clashes Clashes

applied_alike : (op : BinOp) (v w : Value) (m k : ℕ) → Alike (applied op v w m) (applied op v w k)
applied_alike op (Num a) (Num b) m k = numbers_alike op a b m k
applied_alike op (Truth a) (Truth b) m k = truths_alike op a b m k
applied_alike op v w m k = alike_clashes Clashes

both_alike : (op : BinOp) (v : Value) (f g : ℕ → Out Value) (m k : ℕ) → ((i j : ℕ) → Alike (f i) (g j))
    → Alike (and_then (f m) (λ w i. applied op v w i)) (and_then (g k) (λ w j. applied op v w j))
both_alike op v f g m k h = then_alike (f m) (g k) _ _ (h m k) (λ w i j. applied_alike op v w i j)

right_alike : (op : BinOp) (v : Value) (f g : ℕ → Out Value) (m k : ℕ) → ((i j : ℕ) → Alike (f i) (g j)) → Alike (with_right op v f m) (with_right op v g k)
right_alike And (Truth false) f g m k h = alike_gives (Truth false) m k
right_alike And (Truth true) f g m k h = both_alike And (Truth true) f g m k h
right_alike And (Num z) f g m k h = both_alike And (Num z) f g m k h
right_alike And (Items vs) f g m k h = both_alike And (Items vs) f g m k h
right_alike Or (Truth true) f g m k h = alike_gives (Truth true) m k
right_alike Or (Truth false) f g m k h = both_alike Or (Truth false) f g m k h
right_alike Or (Num z) f g m k h = both_alike Or (Num z) f g m k h
right_alike Or (Items vs) f g m k h = both_alike Or (Items vs) f g m k h
right_alike BitOr v f g m k h = both_alike BitOr v f g m k h
right_alike BitXor v f g m k h = both_alike BitXor v f g m k h
right_alike BitAnd v f g m k h = both_alike BitAnd v f g m k h
right_alike Eq v f g m k h = both_alike Eq v f g m k h
right_alike Ne v f g m k h = both_alike Ne v f g m k h
right_alike Lt v f g m k h = both_alike Lt v f g m k h
right_alike Le v f g m k h = both_alike Le v f g m k h
right_alike Gt v f g m k h = both_alike Gt v f g m k h
right_alike Ge v f g m k h = both_alike Ge v f g m k h
right_alike Shl v f g m k h = both_alike Shl v f g m k h
right_alike Shr v f g m k h = both_alike Shr v f g m k h
right_alike Add v f g m k h = both_alike Add v f g m k h
right_alike Sub v f g m k h = both_alike Sub v f g m k h
right_alike Mul v f g m k h = both_alike Mul v f g m k h
right_alike Div v f g m k h = both_alike Div v f g m k h
right_alike Mod v f g m k h = both_alike Mod v f g m k h

chosen_alike : (v : Value) (f g f' g' : ℕ → Out Value) (m k : ℕ) → ((i j : ℕ) → Alike (f i) (f' j)) → ((i j : ℕ) → Alike (g i) (g' j)) → Alike (chosen v f g m) (chosen v f' g' k)
chosen_alike (Truth true) f g f' g' m k p q = p m k
chosen_alike (Truth false) f g f' g' m k p q = q m k
chosen_alike (Num z) f g f' g' m k p q = alike_clashes Clashes
chosen_alike (Items vs) f g f' g' m k p q = alike_clashes Clashes

item_alike : (o : Option Value) (m k : ℕ) → Alike (elim o [ None ↦ Traps Rattle.rvc_base.specs.declared.trap.Trap.TheVariants.IndexRange | Some v ↦ Gives v m ]) (elim o [ None ↦ Traps Rattle.rvc_base.specs.declared.trap.Trap.TheVariants.IndexRange | Some v ↦ Gives v k ])
item_alike None m k = alike_traps _ (Traps _)
item_alike (Some v) m k = alike_gives v m k

indexed_alike : (v w : Value) (m k : ℕ) → Alike (expression.indexed v w m) (expression.indexed v w k)
indexed_alike (Items vs) (Num (pos i)) m k = item_alike (value_at vs i) m k
indexed_alike (Items vs) (Num (negsuc i)) m k = alike_traps _ (Traps _)
indexed_alike (Items vs) (Truth b) m k = alike_clashes Clashes
indexed_alike (Items vs) (Items ws) m k = alike_clashes Clashes
indexed_alike (Num z) w m k = alike_clashes Clashes
indexed_alike (Truth b) w m k = alike_clashes Clashes

-- ---- trees that are equal once names are keyed, ignoring offsets

-- a name stands as an identifier or a variable
name_like : (o : Option (List ℕ)) (name : List ℕ) (at : ℕ) (t : Tree) → ((key : List ℕ) → t ≡ tree.ident key 0 → ⊥) → ((other : List ℕ) → t ≡ tree.variable other 0 → ⊥)
    → t ≡ unplaced (elim o [ Some key ↦ tree.ident key at | None ↦ tree.variable name at ]) → ⊥
name_like None name at t p q h = q name h
name_like (Some key) name at t p q h = p key h

known_alike : (o p : Option Value) (m k : ℕ) → ((v w : Value) → o ≡ Some v → p ≡ Some w → v ≡ w) → Alike (known o m) (known p k)
known_alike None p m k h = alike_lacks (known p k)
known_alike (Some a) None m k h = lacks_alike (Gives a m)
known_alike (Some a) (Some b) m k h = subst (λ c. Alike (Gives a m) (Gives c k)) (h a b refl refl) (alike_gives a m k)

ident_is : (key other : List ℕ) → tree.ident key 0 ≡ tree.ident other 0 → key ≡ other
ident_is key other h = cc

variable_is : (name other : List ℕ) → tree.variable name 0 ≡ tree.variable other 0 → name ≡ other
variable_is name other h = cc

some_is : (v w : Value) → Some v ≡ Some w → v ≡ w
some_is v w h = cc

number_is : (n o : ℕ) → tree.number n 0 ≡ tree.number o 0 → n ≡ o
number_is n o h = cc

truth_is : (b c : Bool) → tree.truth b 0 ≡ tree.truth c 0 → b ≡ c
truth_is b c h = cc

paren_is : (e f : Tree) → tree.paren (unplaced e) 0 ≡ tree.paren (unplaced f) 0 → unplaced e ≡ unplaced f
paren_is e f h = cc

if_is : (a b c d e f : Tree) → tree.if_expr (unplaced a) (unplaced b) (unplaced c) 0 ≡ tree.if_expr (unplaced d) (unplaced e) (unplaced f) 0
    → (unplaced a ≡ unplaced d) × (unplaced b ≡ unplaced e) × (unplaced c ≡ unplaced f)
if_is a b c d e f h = (cc, cc, cc)

list_is : (a b : Tree) → tree.list (unplaced a) 0 ≡ tree.list (unplaced b) 0 → unplaced a ≡ unplaced b
list_is a b h = cc

index_is : (a b c d : Tree) → tree.index (unplaced a) (unplaced b) 0 ≡ tree.index (unplaced c) (unplaced d) 0 → (unplaced a ≡ unplaced c) × (unplaced b ≡ unplaced d)
index_is a b c d h = (cc, cc)

cons_is : (a b c d : Tree) → tree.cons (unplaced a) (unplaced b) ≡ tree.cons (unplaced c) (unplaced d) → (unplaced a ≡ unplaced c) × (unplaced b ≡ unplaced d)
cons_is a b c d h = (cc, cc)

prefix_is : (op other : PrefixOp) (a b : Tree) → tree.prefix op (unplaced a) 0 ≡ tree.prefix other (unplaced b) 0 → (op ≡ other) × (unplaced a ≡ unplaced b)
prefix_is op other a b h = (cc, cc)

binary_is : (op other : BinOp) (a b c d : Tree) → tree.binary op (unplaced a) (unplaced b) 0 ≡ tree.binary other (unplaced c) (unplaced d) 0
    → (op ≡ other) × (unplaced a ≡ unplaced c) × (unplaced b ≡ unplaced d)
binary_is op other a b c d h = (cc, cc, cc)

module _ (actor : Actor) (x : State) (u : List (List ℤ)) (one two : Action) where
  abbrev here : Env
  here = seen_by actor x u one

  abbrev there : Env
  there = seen_by actor x u two

  name_values : (o p : Option (List ℕ)) (name other : List ℕ) (at place : ℕ) (v w : Value)
      → unplaced (elim o [ Some key ↦ tree.ident key at | None ↦ tree.variable name at ]) ≡ unplaced (elim p [ Some key ↦ tree.ident key place | None ↦ tree.variable other place ])
      → elim (option_map (key_value actor u) o) [ None ↦ find name x.vars | Some z ↦ Some z ] ≡ Some v
      → elim (option_map (key_value actor u) p) [ None ↦ find other x.vars | Some z ↦ Some z ] ≡ Some w → v ≡ w
  name_values None None name other at place v w h a b =
      some_is v w (sym a ∙ ap (λ n. find n x.vars) (variable_is name other h) ∙ b)
  name_values None (Some key) name other at place v w h a b = cc
  name_values (Some key) None name other at place v w h a b = cc
  name_values (Some key) (Some more) name other at place v w h a b =
      some_is v w (sym a ∙ ap (λ n. Some (key_value actor u n)) (ident_is key more h) ∙ b)

  names_alike : (name other : List ℕ) (at place m k : ℕ)
      → unplaced (keyed_name name at one.patterns) ≡ unplaced (keyed_name other place two.patterns) → Alike (known (look_up name here) m) (known (look_up other there) k)
  names_alike name other at place m k h =
      known_alike (look_up name here) (look_up other there) m k
      (λ v w a b. name_values (key_in name one.patterns) (key_in other two.patterns) name other at place v w h
      (sym (look_up_is actor x u one name) ∙ a) (sym (look_up_is actor x u two other) ∙ b))

  -- what isn't a name isn't keyed as one
  like_name : (f : Tree) (name : List ℕ) (at m k : ℕ) → IsBare f → unplaced (keyed_name name at one.patterns) ≡ unplaced (keyed f two.patterns)
      → (calls : Calls) → Alike (known (look_up name here) m) (eval f calls there k)
  like_name (tree.variable other place) name at m k bf h calls = names_alike name other at place m k h
  like_name (tree.number n place) name at m k bf h calls = absurd (name_like (key_in name one.patterns) name at (tree.number n 0) (λ key e. cc) (λ other e. cc) (sym h))
  like_name (tree.truth b place) name at m k bf h calls = absurd (name_like (key_in name one.patterns) name at (tree.truth b 0) (λ key e. cc) (λ other e. cc) (sym h))
  like_name (tree.paren e place) name at m k bf h calls = absurd (name_like (key_in name one.patterns) name at _ (λ key e. cc) (λ other e. cc) (sym h))
  like_name (tree.if_expr a b c place) name at m k bf h calls = absurd (name_like (key_in name one.patterns) name at _ (λ key e. cc) (λ other e. cc) (sym h))
  like_name (tree.list es place) name at m k bf h calls = absurd (name_like (key_in name one.patterns) name at _ (λ key e. cc) (λ other e. cc) (sym h))
  like_name (tree.index a b place) name at m k bf h calls = absurd (name_like (key_in name one.patterns) name at _ (λ key e. cc) (λ other e. cc) (sym h))
  like_name (tree.prefix op e place) name at m k bf h calls = absurd (name_like (key_in name one.patterns) name at _ (λ key e. cc) (λ other e. cc) (sym h))
  like_name (tree.binary op a b place) name at m k bf h calls = absurd (name_like (key_in name one.patterns) name at _ (λ key e. cc) (λ other e. cc) (sym h))
  like_name (tree.call other args place) name at m k bf h calls = absurd bf
  like_name (tree.comp item gens place) name at m k bf h calls = absurd bf
  like_name f name at m k bf h calls = clashes_alike (known (look_up name here) m)

  mutual
    -- trees that are equal once names are keyed have one value, if both have one
    pub values_alike : (e f : Tree) (m k : ℕ) → IsBare e → IsBare f → IsEqualApart (keyed e one.patterns) (keyed f two.patterns)
        → (calls : Calls) → Alike (eval e calls here m) (eval f calls there k)
    values_alike (tree.number n at) (tree.number o place) m k be bf h calls =
        let same : n ≡ o = number_is n o h in subst (λ z. Alike (computed (whole (pos n)) m) (computed (whole (pos z)) k)) same (computed_alike (whole (pos n)) m k)
    values_alike (tree.number n at) (tree.variable name place) m k be bf h calls =
        absurd (name_like (key_in name two.patterns) name place (tree.number n 0) (λ key e. cc) (λ other e. cc) h)
    values_alike (tree.number n at) f m k be bf h calls = cc
    values_alike (tree.truth b at) (tree.truth c place) m k be bf h calls =
        let same : b ≡ c = truth_is b c h in subst (λ z. Alike (Gives (Truth b) m) (Gives (Truth z) k)) same (alike_gives (Truth b) m k)
    values_alike (tree.truth b at) (tree.variable name place) m k be bf h calls =
        absurd (name_like (key_in name two.patterns) name place (tree.truth b 0) (λ key e. cc) (λ other e. cc) h)
    values_alike (tree.truth b at) f m k be bf h calls = cc
    values_alike (tree.variable name at) (tree.variable other place) m k be bf h calls = names_alike name other at place m k h
    values_alike (tree.paren e at) (tree.paren f place) m k be bf h calls = values_alike e f m k be bf (paren_is (keyed e one.patterns) (keyed f two.patterns) h) calls
    values_alike (tree.paren e at) (tree.variable name place) m k be bf h calls =
        absurd (name_like (key_in name two.patterns) name place _ (λ key e. cc) (λ other e. cc) h)
    values_alike (tree.paren e at) f m k be bf h calls = cc
    values_alike (tree.variable name at) f m k be bf h calls = like_name f name at m k bf h calls
    values_alike (tree.if_expr test first other at) (tree.if_expr test2 first2 other2 place) m k be bf h calls =
        let parts = if_is (keyed test one.patterns) (keyed first one.patterns) (keyed other one.patterns) (keyed test2 two.patterns) (keyed first2 two.patterns) (keyed other2 two.patterns) h in
        then_alike (eval test calls here m) (eval test2 calls there k) _ _ (values_alike test test2 m k be.0 bf.0 parts.0 calls)
        (λ v i j. chosen_alike v _ _ _ _ i j (λ a b. values_alike first first2 a b be.1 bf.1 parts.1 calls) (λ a b. values_alike other other2 a b be.2 bf.2 parts.2 calls))
    values_alike (tree.if_expr test first other at) (tree.variable name place) m k be bf h calls =
        absurd (name_like (key_in name two.patterns) name place _ (λ key e. cc) (λ other e. cc) h)
    values_alike (tree.if_expr test first other at) f m k be bf h calls = cc
    values_alike (tree.list items at) (tree.list others place) m k be bf h calls =
        then_alike (eval_all items calls here m) (eval_all others calls there k) _ _
        (lists_alike items others m k be bf (list_is (keyed items one.patterns) (keyed others two.patterns) h) calls) (λ vs i j. alike_gives (Items vs) i j)
    values_alike (tree.list items at) (tree.variable name place) m k be bf h calls =
        absurd (name_like (key_in name two.patterns) name place _ (λ key e. cc) (λ other e. cc) h)
    values_alike (tree.list items at) f m k be bf h calls = cc
    values_alike (tree.index base place at) (tree.index base2 place2 at2) m k be bf h calls =
        let parts = index_is (keyed base one.patterns) (keyed place one.patterns) (keyed base2 two.patterns) (keyed place2 two.patterns) h in
        then_alike (eval base calls here m) (eval base2 calls there k) _ _ (values_alike base base2 m k be.0 bf.0 parts.0 calls)
        (λ v i j. then_alike (eval place calls here i) (eval place2 calls there j) _ _ (values_alike place place2 i j be.1 bf.1 parts.1 calls) (λ w a b. indexed_alike v w a b))
    values_alike (tree.index base place0 at) (tree.variable name place) m k be bf h calls =
        absurd (name_like (key_in name two.patterns) name place _ (λ key e. cc) (λ other e. cc) h)
    values_alike (tree.index base place0 at) f m k be bf h calls = cc
    values_alike (tree.prefix op e at) (tree.prefix op2 f at2) m k be bf h calls =
        let parts = prefix_is op op2 (keyed e one.patterns) (keyed f two.patterns) h in
        subst (λ o. Alike (and_then (eval e calls here m) (λ v i. prefixed op v i)) (and_then (eval f calls there k) (λ v i. prefixed o v i))) parts.0
        (then_alike (eval e calls here m) (eval f calls there k) _ _ (values_alike e f m k be bf parts.1 calls) (λ v i j. prefixed_alike op v i j))
    values_alike (tree.prefix op e at) (tree.variable name place) m k be bf h calls =
        absurd (name_like (key_in name two.patterns) name place _ (λ key e. cc) (λ other e. cc) h)
    values_alike (tree.prefix op e at) f m k be bf h calls = cc
    values_alike (tree.binary op l r at) (tree.binary op2 l2 r2 at2) m k be bf h calls =
        let parts = binary_is op op2 (keyed l one.patterns) (keyed r one.patterns) (keyed l2 two.patterns) (keyed r2 two.patterns) h in
        subst (λ o. Alike (and_then (eval l calls here m) (λ v i. with_right op v (λ a. eval r calls here a) i)) (and_then (eval l2 calls there k) (λ v i. with_right o v (λ a. eval r2 calls there a) i))) parts.0
        (then_alike (eval l calls here m) (eval l2 calls there k) _ _ (values_alike l l2 m k be.0 bf.0 parts.1 calls)
        (λ v i j. right_alike op v _ _ i j (λ a b. values_alike r r2 a b be.1 bf.1 parts.2 calls)))
    values_alike (tree.binary op l r at) (tree.variable name place) m k be bf h calls =
        absurd (name_like (key_in name two.patterns) name place _ (λ key e. cc) (λ other e. cc) h)
    values_alike (tree.binary op l r at) f m k be bf h calls = cc
    values_alike (tree.call name args at) f m k be bf h calls = absurd be
    values_alike (tree.comp item gens at) f m k be bf h calls = absurd be
    values_alike e f m k be bf h calls = alike_clashes (eval f calls there k)

    lists_alike : (es fs : Tree) (m k : ℕ) → IsBare es → IsBare fs → IsEqualApart (keyed es one.patterns) (keyed fs two.patterns)
        → (calls : Calls) → Alike (eval_all es calls here m) (eval_all fs calls there k)
    lists_alike tree.nil tree.nil m k be bf h calls = alike_gives Nil m k
    lists_alike tree.nil (tree.variable name place) m k be bf h calls =
        absurd (name_like (key_in name two.patterns) name place _ (λ key e. cc) (λ other e. cc) h)
    lists_alike tree.nil f m k be bf h calls = cc
    lists_alike (tree.cons e es) (tree.cons f fs) m k be bf h calls =
        let parts = cons_is (keyed e one.patterns) (keyed es one.patterns) (keyed f two.patterns) (keyed fs two.patterns) h in
        then_alike (eval e calls here m) (eval f calls there k) _ _ (values_alike e f m k be.0 bf.0 parts.0 calls)
        (λ v i j. then_alike (eval_all es calls here i) (eval_all fs calls there j) _ _ (lists_alike es fs i j be.1 bf.1 parts.1 calls) (λ vs a b. alike_gives (Cons v vs) a b))
    lists_alike (tree.cons e es) (tree.variable name place) m k be bf h calls =
        absurd (name_like (key_in name two.patterns) name place _ (λ key e. cc) (λ other e. cc) h)
    lists_alike (tree.cons e es) f m k be bf h calls = cc
    lists_alike es fs m k be bf h calls = alike_clashes (eval_all fs calls there k)
