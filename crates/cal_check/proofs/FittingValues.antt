-- Values whose numbers are those of the language: evaluation gives only such, whatever the kinds are.
use Rattle.std.proofs.Common.{◌≡◌, ℕ, zero, suc, ◌<◌, ◌≤◌, ℤ, pos, negsuc, ◌+ℤ◌, ◌-ℤ◌, Bool, true, false, ◌&&◌, List, [], ◌∷◌, ◌++◌, refl, subst, arith, Option, None, Some}
use Rattle.std.specs.Prelude.{if◌then◌else◌, ◌==◌, nat_le, int_div, int_lt, neg_ℤ, option_map, unsigned_abs, ◌*ℤ◌, ◌^◌, codes}
use Rattle.std.specs.Int.{int_shr}
use Rattle.std.specs.Str.{bytes_eq}
use Rattle.std.proofs.lemmas.Bool.{leb-true}
use Rattle.std.proofs.lemmas.Int.{ints}
use Rattle.rvc_base.specs.declared.scalar.Scalar.{Scalar}
use Rattle.rvc_base.specs.declared.scalar.Scalar.TheVariants as scalar
use Rattle.rvc_base.specs.declared.trap.Trap.{Trap}
use Rattle.rvc_base.specs.declared.trap.Trap.TheVariants.{DivideByZero, IndexRange, Overflow, ShiftRange}
use Rattle.rvc_base.specs.Arithmetic.{Computed, whole, by_count, truth}
use Rattle.rvc_base.specs.Arithmetic as arithmetic
use Rattle.rvc_base.specs.Storing.{IsSize, conv}
use Rattle.rvc_base.specs.Turns.{max_turns}
use Rattle.rvc_base.specs.Width.{IsNum, is_num, default_size, max_shift, max_size}
use Rattle.cal_ast.specs.declared.expr.PrefixOp.{PrefixOp}
use Rattle.cal_ast.specs.declared.expr.PrefixOp.TheVariants.{Not, Neg, BitNot}
use Rattle.cal_ast.specs.declared.expr.BinOp.{BinOp}
use Rattle.cal_ast.specs.declared.expr.BinOp.TheVariants.{Or, And, BitOr, BitXor, BitAnd, Eq, Ne, Lt, Le, Gt, Ge, Shl, Shr, Add, Sub, Mul, Div, Mod}
use Rattle.cal_ast.specs.Tree as tree
use Rattle.cal_ast.specs.Tree.{Tree}
use Rattle.cal_model.specs.Value.{Kind, NumKind, BoolKind, ListKind, Shape, Single, Many, Value, Num, Truth, Items, Values, Nil, Cons, HasKind, HaveKind, IsOf, IsType, joined, of_number, repeated, stored, stored_each, value_at, zero_of}
use Rattle.cal_model.specs.Outcome.{Out, Gives, Traps, Lacks, Clashes, alone, and_then, known, needed, turn}
use Rattle.cal_model.specs.Env.{Env, Var, find, item_at, look_up, variable, with_local}
use Rattle.cal_model.specs.Expression.{Calls, Given, applied, args_given, bits, chosen, computed, each_from, elements, eval, eval_all, indexed, of_numbers, of_truths, prefixed, range_of, span, type_meant, type_named, with_right}
use Rattle.cal_model.specs.Actor.{Fun, Local}
use Rattle.cal_model.specs.Call.{answered, arguments, calls_within, declared, first_value, fun_named, on_call}
use Rattle.cal_model.specs.Sound.{Each}
use Rattle.cal_model.proofs.KindNames.{same-text}
use Rattle.cal_model.proofs.KindValues.{both, of-type, single-is-num}
use Rattle.cal_model.proofs.Numbers.{is-num, rest-is-num, shifted-is-num, and-is-num, or-is-num, xor-is-num, not-is-num}
use Rattle.cal_model.proofs.Stored.{conv-in-range}
use Rattle.cal_check.proofs.Lists.{each-append}

-- ---- values

abbrev mutual
  pub Fits : Value → Type 0
  Fits (Num z) = IsNum z
  Fits (Truth b) = Unit {0}
  Fits (Items vs) = AllFit vs

  pub AllFit : Values → Type 0
  AllFit Nil = Unit {0}
  AllFit (Cons v vs) = Fits v × AllFit vs

-- a type whose scalars have allowed sizes
abbrev pub IsSized : Shape → Type 0
IsSized (Single t) = IsSize t
IsSized (Many n items) = IsSized items

pub is-sized : (t : Shape) → IsType t → IsSized t
is-sized (Single t) i = i
is-sized (Many n items) i = is-sized items i.2

mutual
  kind-fits : (k : Kind) (v : Value) → HasKind k v → Fits v
  kind-fits NumKind (Num z) h = h
  kind-fits NumKind (Truth b) h = tt
  kind-fits NumKind (Items vs) h = absurd h
  kind-fits BoolKind (Num z) h = absurd h
  kind-fits BoolKind (Truth b) h = tt
  kind-fits BoolKind (Items vs) h = absurd h
  kind-fits (ListKind n k) (Num z) h = absurd h
  kind-fits (ListKind n k) (Truth b) h = tt
  kind-fits (ListKind n k) (Items vs) h = kinds-fit k vs h.1

  kinds-fit : (k : Kind) (vs : Values) → HaveKind k vs → AllFit vs
  kinds-fit k Nil h = tt
  kinds-fit k (Cons v vs) h = (kind-fits k v h.0, kinds-fit k vs h.1)

pub of-fits : (t : Shape) (v : Value) → IsType t → IsOf t v → Fits v
of-fits t v i h = kind-fits _ v (of-type v t i h)

number-fits : (t : Scalar) (z : ℤ) → IsSize t → Fits (of_number t (conv t z))
number-fits scalar.Bool z h = tt
number-fits (scalar.Int n) z h = single-is-num (scalar.Int n) (conv (scalar.Int n) z) h (conv-in-range (scalar.Int n) z h)
number-fits (scalar.Uint n) z h = single-is-num (scalar.Uint n) (conv (scalar.Uint n) z) h (conv-in-range (scalar.Uint n) z h)

mutual
  stored-fits : (v : Value) (t : Shape) → IsSized t → Fits v → Fits (stored t v)
  stored-fits (Num z) (Single t) i f = number-fits t z i
  stored-fits (Num z) (Many n items) i f = f
  stored-fits (Truth b) (Single t) i f = number-fits t (truth b) i
  stored-fits (Truth b) (Many n items) i f = tt
  stored-fits (Items vs) (Single t) i f = f
  stored-fits (Items vs) (Many n items) i f = all-stored-fit vs items i f

  all-stored-fit : (vs : Values) (t : Shape) → IsSized t → AllFit vs → AllFit (stored_each t vs)
  all-stored-fit Nil t i f = tt
  all-stored-fit (Cons v vs) t i f = (stored-fits v t i f.0, all-stored-fit vs t i f.1)

joined-fit : (vs ws : Values) → AllFit vs → AllFit ws → AllFit (joined vs ws)
joined-fit Nil ws f g = g
joined-fit (Cons v vs) ws f g = (f.0, joined-fit vs ws f.1 g)

repeated-fit : (n : ℕ) (v : Value) → Fits v → AllFit (repeated n v)
repeated-fit zero v f = tt
repeated-fit (suc n) v f = (f, repeated-fit n v f)

no-number : IsNum (pos 0)
no-number = omega (arith, ints)

zero-fits : (t : Shape) → Fits (zero_of t)
zero-fits (Single scalar.Bool) = tt
zero-fits (Single (scalar.Int n)) = no-number
zero-fits (Single (scalar.Uint n)) = no-number
zero-fits (Many n items) = repeated-fit n (zero_of items) (zero-fits items)

-- ---- outcomes

-- what it gives, if it gives something
abbrev pub GivesSuch : {A : Type 0} → (A → Type 0) → Out A → Type 0
GivesSuch P (Gives a m) = P a
GivesSuch P (Traps c) = Unit {0}
GivesSuch P Lacks = Unit {0}
GivesSuch P Clashes = Unit {0}

such-then : {A B : Type 0} (P : A → Type 0) (Q : B → Type 0) (o : Out A) (f : A → ℕ → Out B) → GivesSuch P o → ((a : A) (m : ℕ) → P a → GivesSuch Q (f a m)) → GivesSuch Q (and_then o f)
such-then P Q (Gives a m) f h g = g a m h
such-then P Q (Traps c) f h g = tt
such-then P Q Lacks f h g = tt
such-then P Q Clashes f h g = tt

such-alone : {A : Type 0} (P : A → Type 0) (o : Out A) (left : ℕ) → GivesSuch P o → GivesSuch P (alone o left)
such-alone P (Gives a m) left h = h
such-alone P (Traps c) left h = tt
such-alone P Lacks left h = tt
such-alone P Clashes left h = tt

such-turn : {A : Type 0} (P : A → Type 0) (left : ℕ) (f : ℕ → Out A) → ((k : ℕ) → GivesSuch P (f k)) → GivesSuch P (turn left f)
such-turn P zero f h = tt
such-turn P (suc left) f h = h left

abbrev pub IfSome : {A : Type 0} → (A → Type 0) → Option A → Type 0
IfSome P None = Unit {0}
IfSome P (Some a) = P a

such-needed : {A : Type 0} (P : A → Type 0) (o : Option A) (left : ℕ) → IfSome P o → GivesSuch P (needed o left)
such-needed P None left h = tt
such-needed P (Some a) left h = h

such-known : {A : Type 0} (P : A → Type 0) (o : Option A) (left : ℕ) → IfSome P o → GivesSuch P (known o left)
such-known P None left h = tt
such-known P (Some a) left h = h

-- ---- operators

computed-fits : (c : Computed) (left : ℕ) → ((z : ℤ) → c ≡ arithmetic.Gives z → IsNum z) → GivesSuch Fits (computed c left)
computed-fits (arithmetic.Gives z) left h = h z refl
computed-fits (arithmetic.Traps c) left h = tt

whole-fits : (z : ℤ) (left : ℕ) → GivesSuch Fits (computed (whole z) left)
whole-fits z left = go (is_num z) refl
  where
    go : (b : Bool) → is_num z ≡ b → GivesSuch Fits (computed (if b then arithmetic.Gives z else arithmetic.Traps Overflow) left)
    go true e = is-num z e
    go false e = tt

if-traps : (b : Bool) (c : Trap) (o : Computed) (left : ℕ) → GivesSuch Fits (computed o left) → GivesSuch Fits (computed (if b then arithmetic.Traps c else o) left)
if-traps true c o left h = tt
if-traps false c o left h = h

count-fits : (b : ℤ) (f : ℕ → Computed) (left : ℕ) → ((n : ℕ) → GivesSuch Fits (computed (f n) left)) → GivesSuch Fits (computed (by_count b f) left)
count-fits (pos n) f left h = go (nat_le n max_shift)
  where
    go : (b : Bool) → GivesSuch Fits (computed (if b then f n else arithmetic.Traps ShiftRange) left)
    go true = h n
    go false = tt
count-fits (negsuc n) f left h = tt

numbers-fit : (op : BinOp) (a b : ℤ) (left : ℕ) → IsNum a → IsNum b → GivesSuch Fits (of_numbers op a b left)
numbers-fit Add a b left f g = whole-fits (a +ℤ b) left
numbers-fit Sub a b left f g = whole-fits (a -ℤ b) left
numbers-fit Mul a b left f g = whole-fits (a *ℤ b) left
numbers-fit Div a b left f g = if-traps (unsigned_abs b == 0) DivideByZero (whole (int_div a b)) left (whole-fits (int_div a b) left)
numbers-fit Mod a b left f g = if-traps (unsigned_abs b == 0) DivideByZero _ left (rest-is-num a b f)
numbers-fit Shl a b left f g = count-fits b (λ n. whole (a *ℤ pos (2 ^ n))) left (λ n. whole-fits (a *ℤ pos (2 ^ n)) left)
numbers-fit Shr a b left f g = count-fits b (λ n. arithmetic.Gives (int_shr a n)) left (λ n. shifted-is-num a n f)
numbers-fit BitAnd a b left f g = and-is-num a b f
numbers-fit BitOr a b left f g = or-is-num a b f g
numbers-fit BitXor a b left f g = xor-is-num a b f g
numbers-fit Eq a b left f g = tt
numbers-fit Ne a b left f g = tt
numbers-fit Lt a b left f g = tt
numbers-fit Le a b left f g = tt
numbers-fit Gt a b left f g = tt
numbers-fit Ge a b left f g = tt
numbers-fit And a b left f g = tt
numbers-fit Or a b left f g = tt

truths-fit : (op : BinOp) (a b : Bool) (left : ℕ) → GivesSuch Fits (of_truths op a b left)
truths-fit And a b left = tt
truths-fit Or a b left = tt
truths-fit Eq a b left = tt
truths-fit Ne a b left = tt
truths-fit op a b left = tt

applied-fits : (op : BinOp) (v w : Value) (left : ℕ) → Fits v → Fits w → GivesSuch Fits (applied op v w left)
applied-fits op (Num a) (Num b) left f g = numbers-fit op a b left f g
applied-fits op (Truth a) (Truth b) left f g = truths-fit op a b left
applied-fits op v w left f g = tt

right-fits : (op : BinOp) (v : Value) (f : ℕ → Out Value) (left : ℕ) → Fits v → ((k : ℕ) → GivesSuch Fits (f k)) → GivesSuch Fits (with_right op v f left)
right-fits And (Truth false) f left g h = tt
right-fits Or (Truth true) f left g h = tt
right-fits op v f left g h = such-then Fits Fits (f left) (λ w m. applied op v w m) (h left) (λ w m i. applied-fits op v w m g i)

prefixed-fits : (op : PrefixOp) (v : Value) (left : ℕ) → Fits v → GivesSuch Fits (prefixed op v left)
prefixed-fits Not (Truth b) left f = tt
prefixed-fits Neg (Num a) left f = whole-fits (neg_ℤ a) left
prefixed-fits BitNot (Num a) left f = not-is-num a f
prefixed-fits op v left f = tt

chosen-fits : (v : Value) (f g : ℕ → Out Value) (left : ℕ) → ((k : ℕ) → GivesSuch Fits (f k)) → ((k : ℕ) → GivesSuch Fits (g k)) → GivesSuch Fits (chosen v f g left)
chosen-fits (Truth true) f g left h i = h left
chosen-fits (Truth false) f g left h i = i left
chosen-fits (Num z) f g left h i = tt
chosen-fits (Items vs) f g left h i = tt

at-fits : (vs : Values) (k : ℕ) → AllFit vs → IfSome Fits (value_at vs k)
at-fits Nil k f = tt
at-fits (Cons v vs) zero f = f.0
at-fits (Cons v vs) (suc k) f = at-fits vs k f.1

item-fits : (vs : Values) (i : ℤ) (left : ℕ) → AllFit vs → GivesSuch Fits (item_at vs i left)
item-fits vs (pos k) left f = go (value_at vs k) (at-fits vs k f)
  where
    go : (o : Option Value) → IfSome Fits o → GivesSuch Fits (elim o [ None ↦ Traps IndexRange | Some v ↦ Gives v left ])
    go None h = tt
    go (Some v) h = h
item-fits vs (negsuc k) left f = tt

indexed-fits : (v w : Value) (left : ℕ) → Fits v → GivesSuch Fits (indexed v w left)
indexed-fits (Items vs) (Num i) left f = item-fits vs i left f
indexed-fits v w left f = tt

-- ---- ranges

each-fits : (n : ℕ) (i : ℤ) (f : ℤ → ℕ → Out Values) (left : ℕ) → ((j : ℕ) → j < n → IsNum (i +ℤ pos j)) → ((k : ℤ) (m : ℕ) → IsNum k → GivesSuch AllFit (f k m))
    → GivesSuch AllFit (each_from n i f left)
each-fits zero i f left h g = tt
each-fits (suc n) i f left h g =
    let first : IsNum (i +ℤ pos 0) = h 0 (omega arith) in
    let here : IsNum i = omega (arith, ints) in
    such-then AllFit AllFit (f i left) _ (g i left here) (λ vs m a.
    such-then AllFit AllFit (each_from n (i +ℤ pos 1) f m) _
    (each-fits n (i +ℤ pos 1) f m (λ j l. let next : IsNum (i +ℤ pos (suc j)) = h (suc j) (omega arith) in later i j next) g)
    (λ ws k b. joined-fit vs ws a b))
  where
    later : (i : ℤ) (j : ℕ) → IsNum (i +ℤ pos (suc j)) → IsNum ((i +ℤ pos 1) +ℤ pos j)
    later i j h = omega (arith, ints)

in-span : (low high : ℤ) (j : ℕ) (b : Bool) → int_lt high low ≡ b → IsNum low → IsNum high → j < (if b then 0 else suc (unsigned_abs (high -ℤ low))) → IsNum (low +ℤ pos j)
in-span low high j true e f g h = absurd (omega arith)
in-span low high j false e f g h = omega (arith, ints)

range-fits : (v w : Value) (f : ℤ → ℤ → Out Values) → Fits v → Fits w → ((a b : ℤ) → IsNum a → IsNum b → GivesSuch AllFit (f a b)) → GivesSuch AllFit (range_of v w f)
range-fits (Num a) (Num b) f g h i = i a b g h
range-fits v w f g h i = tt

-- ---- types

bits-sized : (o : Option ℕ) (f : ℕ → Shape) → ((n : ℕ) → 1 ≤ n → n ≤ max_size → IsSized (f n)) → IfSome IsSized (bits o f)
bits-sized None f h = h default_size (omega arith) (omega arith)
bits-sized (Some n) f h = go (nat_le 1 n && nat_le n max_size) refl
  where
    go : (b : Bool) → (nat_le 1 n && nat_le n max_size) ≡ b → IfSome IsSized (if b then Some (f n) else None)
    go true e = let two = both (nat_le 1 n) (nat_le n max_size) e in h n (leb-true 1 n two.0) (leb-true n max_size two.1)
    go false e = tt

list-sized : (items : Option Shape) (size : Option ℕ) → IfSome IsSized items
    → IfSome IsSized (elim items [ None ↦ None | Some t ↦ elim size [ None ↦ None | Some n ↦ Some (Many n t) ] ])
list-sized None size h = tt
list-sized (Some t) None h = tt
list-sized (Some t) (Some n) h = h

if-sized : (b : Bool) (o p : Option Shape) → IfSome IsSized o → IfSome IsSized p → IfSome IsSized (if b then o else p)
if-sized true o p h i = h
if-sized false o p h i = i

named-sized : (name : List ℕ) (given : Given) → IfSome IsSized given.items → IfSome IsSized (type_named name given)
named-sized name given h =
    if-sized (bytes_eq name (codes "bool")) _ _ tt
    (if-sized (bytes_eq name (codes "int")) _ _ (bits-sized given.size (λ n. Single (scalar.Int n)) (λ n p q. (p, q)))
    (if-sized (bytes_eq name (codes "uint")) _ _ (bits-sized given.size (λ n. Single (scalar.Uint n)) (λ n p q. (p, q)))
    (if-sized (bytes_eq name (codes "List")) _ _ (list-sized given.items given.size h) tt)))

-- ---- environments

abbrev pub VarsFit : List Var → Type 0
VarsFit vars = Each (λ x. Fits x.value) vars

-- values that fit, and calls that give such over the globals
pub record EnvFits (calls : Calls) (env : Env) : Type 0 where
  pub locals : VarsFit env.locals
  pub globals : VarsFit env.globals
  pub called : (name : List ℕ) (args : Values) (left : ℕ) → AllFit args → GivesSuch Fits (calls env.globals name args left)

find-fits : (name : List ℕ) (vars : List Var) → VarsFit vars → IfSome Fits (find name vars)
find-fits name [] f = tt
find-fits name (x ∷ xs) f = go (bytes_eq x.name name) (find-fits name xs f.1)
  where
    go : (b : Bool) → IfSome Fits (find name xs) → IfSome Fits (if b then Some x.value else find name xs)
    go true rest = f.0
    go false rest = rest

one-more : (calls : Calls) (env : Env) (x : Var) → Fits x.value → EnvFits calls env → EnvFits calls (with_local x env)
one-more calls env x f e = record { locals = (f, e.locals); globals = e.globals; called = e.called }

-- ---- evaluation

mutual
  pub eval-fits : (e : Tree) (calls : Calls) (env : Env) (left : ℕ) → EnvFits calls env → GivesSuch Fits (eval e calls env left)
  eval-fits (tree.number n at) calls env left f = whole-fits (pos n) left
  eval-fits (tree.truth b at) calls env left f = tt
  eval-fits (tree.variable name at) calls env left f =
      such-known Fits (look_up name env) left (find-fits name (env.locals ++ env.globals) (each-append (λ x. Fits x.value) env.locals env.globals f.locals f.globals))
  eval-fits (tree.call name args at) calls env left f =
      such-then AllFit Fits (eval_all args calls env left) _ (all-fit args calls env left f) (λ vs m a. such-turn Fits m _ (λ k. f.called name vs k a))
  eval-fits (tree.paren e at) calls env left f = eval-fits e calls env left f
  eval-fits (tree.if_expr test first other at) calls env left f =
      such-then Fits Fits (eval test calls env left) _ (eval-fits test calls env left f) (λ v m a.
      chosen-fits v _ _ m (λ k. eval-fits first calls env k f) (λ k. eval-fits other calls env k f))
  eval-fits (tree.list items at) calls env left f =
      such-then AllFit Fits (eval_all items calls env left) _ (all-fit items calls env left f) (λ vs m a. a)
  eval-fits (tree.comp item gens at) calls env left f =
      such-then AllFit Fits (elements gens (λ inner k. eval item calls inner k) calls env left) _
      (elements-fit gens (λ inner k. eval item calls inner k) calls env left f (λ inner k g. eval-fits item calls inner k g)) (λ vs m a. a)
  eval-fits (tree.index base place at) calls env left f =
      such-then Fits Fits (eval base calls env left) _ (eval-fits base calls env left f) (λ v m a.
      such-then Fits Fits (eval place calls env m) _ (eval-fits place calls env m f) (λ i k b. indexed-fits v i k a))
  eval-fits (tree.prefix op e at) calls env left f =
      such-then Fits Fits (eval e calls env left) _ (eval-fits e calls env left f) (λ v m a. prefixed-fits op v m a)
  eval-fits (tree.binary op l r at) calls env left f =
      such-then Fits Fits (eval l calls env left) _ (eval-fits l calls env left f) (λ v m a. right-fits op v _ m a (λ k. eval-fits r calls env k f))
  eval-fits other calls env left f = tt

  all-fit : (es : Tree) (calls : Calls) (env : Env) (left : ℕ) → EnvFits calls env → GivesSuch AllFit (eval_all es calls env left)
  all-fit tree.nil calls env left f = tt
  all-fit (tree.cons e es) calls env left f =
      such-then Fits AllFit (eval e calls env left) _ (eval-fits e calls env left f) (λ v m a.
      such-then AllFit AllFit (eval_all es calls env m) _ (all-fit es calls env m f) (λ vs k b. (a, b)))
  all-fit other calls env left f = tt

  elements-fit : (gens : Tree) (item : Env → ℕ → Out Value) (calls : Calls) (env : Env) (left : ℕ) → EnvFits calls env
      → ((inner : Env) (k : ℕ) → EnvFits calls inner → GivesSuch Fits (item inner k)) → GivesSuch AllFit (elements gens item calls env left)
  elements-fit tree.nil item calls env left f g =
      such-turn AllFit left _ (λ m. such-then Fits AllFit (item env m) _ (g env m f) (λ v k a. (a, tt)))
  elements-fit (tree.cons (tree.gen shape (tree.ident name place) from to at) gens) item calls env left f g =
      such-then IsSized AllFit (type_meant shape calls env left) _ (type-fits shape calls env left f) (λ t h s.
      such-then Fits AllFit (alone (eval from calls env max_turns) h) _ (such-alone Fits (eval from calls env max_turns) h (eval-fits from calls env max_turns f)) (λ a j p.
      such-then Fits AllFit (alone (eval to calls env max_turns) j) _ (such-alone Fits (eval to calls env max_turns) j (eval-fits to calls env max_turns f)) (λ b k q.
      range-fits a b _ p q (λ low high l m.
      each-fits (span low high) low _ k (λ i less. in-span low high i (int_lt high low) refl l m less) (λ i n num.
      elements-fit gens item calls (with_local (variable name t false (stored t (Num i))) env) n
      (one-more calls env (variable name t false (stored t (Num i))) (stored-fits (Num i) t s num) f) g)))))
  elements-fit other item calls env left f g = tt

  type-fits : (shape : Tree) (calls : Calls) (env : Env) (left : ℕ) → EnvFits calls env → GivesSuch IsSized (type_meant shape calls env left)
  type-fits (tree.type_of (tree.ident name place) args at) calls env left f =
      such-then (λ given. IfSome IsSized given.items) IsSized (args_given args calls env left) _ (args-fit args calls env left f) (λ given m a.
      such-needed IsSized (type_named name given) m (named-sized name given a))
  type-fits other calls env left f = tt

  args-fit : (args : Tree) (calls : Calls) (env : Env) (left : ℕ) → EnvFits calls env → GivesSuch (λ given. IfSome IsSized given.items) (args_given args calls env left)
  args-fit tree.nil calls env left f = tt
  args-fit (tree.cons (tree.shape_arg name shape) args) calls env left f =
      such-then IsSized (λ given. IfSome IsSized given.items) (type_meant shape calls env left) _ (type-fits shape calls env left f) (λ t m a.
      such-then (λ given. IfSome IsSized given.items) (λ given. IfSome IsSized given.items) (args_given args calls env m) _ (args-fit args calls env m f) (λ given k b. a))
  args-fit (tree.cons (tree.value_arg name value) args) calls env left f =
      such-then Fits (λ given. IfSome IsSized given.items) (alone (eval value calls env max_turns) left) _
      (such-alone Fits (eval value calls env max_turns) left (eval-fits value calls env max_turns f)) (λ v m a.
      such-then (λ given. IfSome IsSized given.items) (λ given. IfSome IsSized given.items) (args_given args calls env m) _ (args-fit args calls env m f) (λ given k b. b))
  args-fit other calls env left f = tt

-- ---- functions

-- a function whose types have allowed sizes
pub record FunFits (f : Fun) : Type 0 where
  pub formals : Each (λ x. IsSized x.shape) f.formals
  pub locals : Each (λ x. IsSized x.shape) f.locals
  pub result : IsSize f.result

-- what holds of each function holds of the one that is named, which has the name
pub named-one : (F : Fun → Type 0) (name : List ℕ) (fs : List Fun) (f : Fun) → Each F fs → fun_named name fs ≡ Some f → F f × (f.name ≡ name)
named-one F name [] f h e = absurd (let no : None ≡ Some f = e in cc)
named-one F name (g ∷ gs) f h e = go (bytes_eq g.name name) refl e (named-one F name gs f h.1)
  where
    go : (b : Bool) → bytes_eq g.name name ≡ b → (if b then Some g else fun_named name gs) ≡ Some f → (fun_named name gs ≡ Some f → F f × (f.name ≡ name)) → F f × (f.name ≡ name)
    go true s i rest = let same : g ≡ f = cc in subst (λ k. F k × (k.name ≡ name)) same (h.0, same-text g.name name s)
    go false s i rest = rest i

arguments-fit : (xs : List Local) (vs : Values) → Each (λ x. IsSized x.shape) xs → AllFit vs → IfSome VarsFit (arguments xs vs)
arguments-fit [] Nil s f = tt
arguments-fit (x ∷ xs) (Cons v vs) s f = go (arguments xs vs) (arguments-fit xs vs s.1 f.1)
  where
    go : (o : Option (List Var)) → IfSome VarsFit o → IfSome VarsFit (option_map (λ vars. vars ++ variable x.name x.shape x.changes (stored x.shape v) ∷ []) o)
    go None h = tt
    go (Some vars) h = each-append (λ y. Fits y.value) vars (variable x.name x.shape x.changes (stored x.shape v) ∷ []) h (stored-fits v x.shape s.0 f.0, tt)
arguments-fit [] (Cons v vs) s f = tt
arguments-fit (x ∷ xs) Nil s f = tt

first-fits : (t : Shape) (start : Option Tree) (calls : Calls) (env : Env) (left : ℕ) → IsSized t → EnvFits calls env → GivesSuch Fits (first_value t start calls env left)
first-fits t None calls env left s f = zero-fits t
first-fits t (Some e) calls env left s f = such-then Fits Fits (eval e calls env left) _ (eval-fits e calls env left f) (λ v k a. stored-fits v t s a)

declared-fit : (xs : List Local) (calls : Calls) (env : Env) (left : ℕ) → Each (λ x. IsSized x.shape) xs → EnvFits calls env → GivesSuch (EnvFits calls) (declared xs calls env left)
declared-fit [] calls env left s f = f
declared-fit (x ∷ xs) calls env left s f =
    such-then Fits (EnvFits calls) (first_value x.shape x.start calls env left) _ (first-fits x.shape x.start calls env left s.0 f) (λ v m a.
    declared-fit xs calls (with_local (variable x.name x.shape x.changes v) env) m s.1 (one-more calls env (variable x.name x.shape x.changes v) a f))

answered-fits : (f : Fun) (calls : Calls) (globals : List Var) (args : Values) (left : ℕ) → FunFits f → VarsFit globals
    → ((name : List ℕ) (vs : Values) (k : ℕ) → AllFit vs → GivesSuch Fits (calls globals name vs k)) → AllFit args → GivesSuch Fits (answered f calls globals args left)
answered-fits f calls globals args left s g h a =
    such-then (EnvFits calls) Fits (on_call globals f.formals args left) _
    (such-then VarsFit (EnvFits calls) (needed (arguments f.formals args) left) _ (such-needed VarsFit (arguments f.formals args) left (arguments-fit f.formals args s.formals a))
    (λ vars k v. record { locals = v; globals = g; called = h }))
    (λ entry n e.
    such-then (EnvFits calls) Fits (declared f.locals calls entry n) _ (declared-fit f.locals calls entry n s.locals e) (λ env m i.
    such-then Fits Fits (eval f.body calls env m) _ (eval-fits f.body calls env m i) (λ v k b. stored-fits v (Single f.result) s.result b)))

pub calls-fit : (n : ℕ) (funs : List Fun) (globals : List Var) → Each FunFits funs → VarsFit globals → (name : List ℕ) (args : Values) (left : ℕ) → AllFit args
    → GivesSuch Fits (calls_within n funs globals name args left)
calls-fit zero funs globals s g name args left a = tt
calls-fit (suc n) funs globals s g name args left a = go (fun_named name funs) refl (λ other vs k b. calls-fit n funs globals s g other vs k b)
  where
    go : (o : Option Fun) → fun_named name funs ≡ o → ((other : List ℕ) (vs : Values) (k : ℕ) → AllFit vs → GivesSuch Fits (calls_within n funs globals other vs k))
        → GivesSuch Fits (elim o [ None ↦ Lacks | Some f ↦ answered f (calls_within n funs) globals args left ])
    go None e less = tt
    go (Some f) e less = answered-fits f (calls_within n funs) globals args left (named-one FunFits name funs f s e).0 g less a
