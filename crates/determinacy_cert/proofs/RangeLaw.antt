-- An expression that has a range never traps if its names have values of their types, and gives a number within it.
use Rattle.std.proofs.Common.{◌≡◌, ℕ, zero, suc, ◌-◌, ◌<◌, ◌^◌, Bool, true, false, ℤ, pos, negsuc, ◌+ℤ◌, ◌-ℤ◌, ◌*ℤ◌, ◌≤ℤ◌, ◌<ℤ◌, List, refl, sym, subst, arith}
use Rattle.std.specs.Prelude.{Option, None, Some, if◌then◌else◌, int_le, neg_ℤ, int_div, int_rem, unsigned_abs, nat_le, ◌==◌}
use Rattle.std.specs.Int.{int_shr}
use Rattle.std.proofs.lemmas.Int.{ints}
use Rattle.rvc_base.specs.declared.scalar.Scalar.{Scalar}
use Rattle.rvc_base.specs.declared.scalar.Scalar.TheVariants as scalar
use Rattle.rvc_base.specs.Width.{is_num, IsNum, max_shift}
use Rattle.rvc_base.specs.Arithmetic.{Computed, truth, whole, by_count}
use Rattle.rvc_base.specs.Arithmetic as arithmetic
use Rattle.rvc_base.specs.declared.trap.Trap.TheVariants.{Overflow, DivideByZero, ShiftRange, IndexRange}
use Rattle.cal_ast.specs.declared.expr.PrefixOp.{PrefixOp}
use Rattle.cal_ast.specs.declared.expr.PrefixOp.TheVariants.{Not, Neg, BitNot}
use Rattle.cal_model.proofs.Numbers.{is-num, rest-is-num, shifted-is-num, and-is-num, or-is-num, xor-is-num, not-is-num}
use Rattle.cal_ast.specs.declared.expr.BinOp.{BinOp}
use Rattle.cal_ast.specs.declared.expr.BinOp.TheVariants.{Or, And, BitOr, BitXor, BitAnd, Eq, Ne, Lt, Le, Gt, Ge, Shl, Shr, Add, Sub, Mul, Div, Mod}
use Rattle.cal_ast.specs.Tree as tree
use Rattle.cal_ast.specs.Tree.{Tree}
use Rattle.cal_model.specs.Value.{Shape, Single, Many, Value, Num, Truth, Items, Values, Nil, Cons, count, value_at, IsOf, AreOf}
use Rattle.cal_model.specs.Outcome.{Out, Gives, Traps, Lacks, Clashes, and_then, known}
use Rattle.cal_model.specs.Env.{Env, look_up, item_at}
use Rattle.cal_model.specs.Expression.{Calls, computed, prefixed, of_numbers, of_truths, applied, with_right, chosen, eval}
use Rattle.cal_model.specs.Expression as expression
use Rattle.cal_model.specs.Certified.{Interval, between, just, hull, truths, fitting, lies_within, type_range, scalars_range, Ranged, ranged, range_of_both, range_of_name, item_ranged, on_interval, on_ranged, range, indexed}
use Rattle.determinacy_cert.proofs.Intervals.{Lies, in_left, in_right}
use Rattle.determinacy_cert.proofs.Ranges.{HasNumber, In, Safe, safe_then, fitting_safe, lies_as, at_least, two_true, prefixed_safe, applied_safe, truth_in, just_lies}

-- ---- what a name holds

abbrev mutual
  -- each scalar of a value lies in the interval
  pub AllIn : Interval → Value → Type 0
  AllIn i (Num z) = Lies i z
  AllIn i (Truth b) = Lies i (truth b)
  AllIn i (Items vs) = EachIn i vs

  pub EachIn : Interval → Values → Type 0
  EachIn i Nil = Unit {0}
  EachIn i (Cons v vs) = AllIn i v × EachIn i vs

-- a value of the type; of a constant or a part of one, each scalar lies within the constant's
pub record StandsAs (x : Ranged) (v : Value) : Type 0 where
  pub of : IsOf x.shape v
  pub constant : (c : Value) (r : Interval) → x.value ≡ Some c → scalars_range c ≡ Some r → AllIn r v

-- the values under names
abbrev pub StandUnder : List Ranged → Env → Type 0
StandUnder names env = (name : List ℕ) (x : Ranged) (v : Value) → ranged name names ≡ Some x → look_up name env ≡ Some v → StandsAs x v

-- ---- single values

type_lies : (t : Scalar) (v : Value) → IsOf (Single t) v → In (type_range t) v
type_lies scalar.Bool (Truth b) h = truth_in b
type_lies scalar.Bool (Num z) h = absurd h
type_lies (scalar.Int n) (Num z) h = ends z (2 ^ (n - 1)) h.0 h.1
  where
    ends : (z : ℤ) (m : ℕ) → pos 0 ≤ℤ (z +ℤ pos m) → z <ℤ pos m → Lies (between (neg_ℤ (pos m)) (pos m -ℤ pos 1)) z
    ends z m p q =
        let low : neg_ℤ (pos m) ≤ℤ z = omega (arith, ints) in
        let high : z ≤ℤ (pos m -ℤ pos 1) = omega (arith, ints) in
        record { low = low; high = high }
type_lies (scalar.Int n) (Truth b) h = absurd h
type_lies (scalar.Uint n) (Num z) h = ends z (2 ^ n) h.0 h.1
  where
    ends : (z : ℤ) (m : ℕ) → pos 0 ≤ℤ z → z <ℤ pos m → Lies (between (pos 0) (pos m -ℤ pos 1)) z
    ends z m p q =
        let high : z ≤ℤ (pos m -ℤ pos 1) = omega (arith, ints) in
        record { low = p; high = high }
type_lies (scalar.Uint n) (Truth b) h = absurd h
type_lies t (Items vs) h = absurd h

in_as : (i r : Interval) (v : Value) → fitting i ≡ Some r → In i v → In r v
in_as i r (Num z) h p = lies_as i r z h p
in_as i r (Truth b) h p = lies_as i r (truth b) h p
in_as i r (Items vs) h p = tt

single_in : (i : Interval) (t : Scalar) (v : Value) → IsOf (Single t) v → AllIn i v → In i v
single_in i t (Num z) of h = h
single_in i t (Truth b) of h = h
single_in i t (Items vs) of h = absurd of

constant_in : (x : Ranged) (t : Scalar) (v : Value) (r : Interval) (o : Option Value) → x.shape ≡ Single t → x.value ≡ o → StandsAs x v
    → elim o [ None ↦ fitting (type_range t) | Some c ↦ elim (scalars_range c) [ None ↦ None | Some i ↦ fitting i ] ] ≡ Some r → In r v
constant_in x t v r None shape value stands h =
    in_as (type_range t) r v h (type_lies t v (subst (λ s. IsOf s v) shape stands.of))
constant_in x t v r (Some c) shape value stands h = go (scalars_range c) refl h
  where
    go : (o : Option Interval) → scalars_range c ≡ o → elim o [ None ↦ None | Some i ↦ fitting i ] ≡ Some r → In r v
    go None is h = cc
    go (Some i) is h = in_as i r v h (single_in i t v (subst (λ s. IsOf s v) shape stands.of) (stands.constant c i value is))

-- what has the range of a name lies within it
name_in : (x : Ranged) (v : Value) (r : Interval) (s : Shape) → x.shape ≡ s → StandsAs x v → range_of_name x ≡ Some r → In r v
name_in x v r (Single t) shape stands h =
    constant_in x t v r x.value shape refl stands
    (subst (λ s. elim s [ Single t ↦ elim x.value [ None ↦ fitting (type_range t) | Some c ↦ elim (scalars_range c) [ None ↦ None | Some i ↦ fitting i ] ] | Many n items ↦ None ] ≡ Some r) shape h)
name_in x v r (Many n items) shape stands h =
    (let no : None ≡ Some r = subst (λ s. elim s [ Single t ↦ elim x.value [ None ↦ fitting (type_range t) | Some c ↦ elim (scalars_range c) [ None ↦ None | Some i ↦ fitting i ] ] | Many n items ↦ None ] ≡ Some r) shape h in cc)

-- ---- items of lists

-- a place of a list holds a value of the item's type
item_there : (vs : Values) (t : Shape) (k : ℕ) → AreOf t vs → k < count vs → (v : Value) × (value_at vs k ≡ Some v) × IsOf t v
item_there Nil t k of h = absurd (omega arith)
item_there (Cons v vs) t zero of h = (v, refl, of.0)
item_there (Cons v vs) t (suc k) of h = item_there vs t k of.1 (omega arith)

item_within : (i : Interval) (vs : Values) (k : ℕ) (v : Value) → EachIn i vs → value_at vs k ≡ Some v → AllIn i v
item_within i Nil k v h at = cc
item_within i (Cons w vs) zero v h at = let same : w ≡ v = cc in subst (λ x. AllIn i x) same h.0
item_within i (Cons w vs) (suc k) v h at = item_within i vs k v h.1 at

record IsItem (i : Interval) (x y : Ranged) (n : ℕ) (items : Shape) : Type 0 where
  is : y ≡ record x { shape = items }
  low : pos 0 ≤ℤ i.low
  high : i.high ≤ℤ (pos n -ℤ pos 1)

ranged_if : (b : Bool) (x y : Ranged) (items : Shape) → (if b then Some (record x { shape = items }) else None) ≡ Some y → (b ≡ true) × (y ≡ record x { shape = items })
ranged_if true x y items h = (refl, (let e : record x { shape = items } ≡ y = cc in sym e))
ranged_if false x y items h = cc

item_ranged_is : (i : Interval) (x y : Ranged) (s : Shape) → x.shape ≡ s → item_ranged i x ≡ Some y → (n : ℕ) × (items : Shape) × (x.shape ≡ Many n items) × IsItem i x y n items
item_ranged_is i x y (Single t) shape h =
    (let no : None ≡ Some y = subst (λ s. elim s [ Single t ↦ None | Many n items ↦ if lies_within i (pos 0) (pos n -ℤ pos 1) then Some (record x { shape = items }) else None ] ≡ Some y) shape h in cc)
item_ranged_is i x y (Many n items) shape h =
    let taken = ranged_if (lies_within i (pos 0) (pos n -ℤ pos 1)) x y items
    (subst (λ s. elim s [ Single t ↦ None | Many n items ↦ if lies_within i (pos 0) (pos n -ℤ pos 1) then Some (record x { shape = items }) else None ] ≡ Some y) shape h) in
    let ends = two_true (int_le (pos 0) i.low) (int_le i.high (pos n -ℤ pos 1)) taken.0 in
    (n, items, shape, record { is = taken.1; low = at_least (pos 0) i.low ends.0; high = at_least i.high (pos n -ℤ pos 1) ends.1 })

at_place : (z : ℤ) (l h : ℤ) (n : ℕ) → pos 0 ≤ℤ l → l ≤ℤ z → z ≤ℤ h → h ≤ℤ (pos n -ℤ pos 1) → (k : ℕ) × (z ≡ pos k) × (k < n)
at_place (pos k) l h n a b c d = (k, refl, omega (arith, ints))
at_place (negsuc k) l h n a b c d = absurd (omega (arith, ints))

-- the item at a place within the interval
item_found : (i : Interval) (x y : Ranged) (n : ℕ) (items : Shape) (vs : Values) (z : ℤ) (left : ℕ) → x.shape ≡ Many n items → IsItem i x y n items
    → StandsAs x (Items vs) → Lies i z → Safe (StandsAs y) (item_at vs z left)
item_found i x y n items vs z left shape item stands lies =
    let of : (count vs ≡ n) × AreOf items vs = subst (λ s. IsOf s (Items vs)) shape stands.of in
    let place = at_place z i.low i.high n item.low lies.low lies.high item.high in
    let there = item_there vs items place.0 of.1 (subst (λ m. place.0 < m) (sym of.0) place.2) in
    subst (λ w. Safe (StandsAs y) (item_at vs w left)) (sym place.1)
    (subst (λ o. Safe (StandsAs y) (elim o [ None ↦ Traps Rattle.rvc_base.specs.declared.trap.Trap.TheVariants.IndexRange | Some v ↦ Gives v left ])) (sym there.1)
    (subst (λ w. StandsAs w there.0) (sym item.is) (record {
      of = there.2;
      constant = λ c r value range. item_within r vs place.0 there.0 (stands.constant c r value range) there.1;
    })))

-- ---- expressions

-- each value under a name is a number of the language, or a list of such
abbrev mutual
  pub IsSound : Value → Type 0
  IsSound (Num z) = IsNum z
  IsSound (Truth b) = Unit {0}
  IsSound (Items vs) = AreSound vs

  pub AreSound : Values → Type 0
  AreSound Nil = Unit {0}
  AreSound (Cons v vs) = IsSound v × AreSound vs

number_of : (v : Value) → IsSound v → HasNumber v
number_of (Num z) h = h
number_of (Truth b) h = tt
number_of (Items vs) h = tt

-- a value within an interval of numbers of the language
abbrev pub Both : Interval → Value → Type 0
Both i v = In i v × HasNumber v

abbrev pub As : Ranged → Value → Type 0
As x v = StandsAs x v × IsSound v

abbrev pub SoundUnder : Env → Type 0
SoundUnder env = (name : List ℕ) (v : Value) → look_up name env ≡ Some v → IsSound v

sound_item : (vs : Values) (k : ℕ) (v : Value) → AreSound vs → value_at vs k ≡ Some v → IsSound v
sound_item Nil k v h at = cc
sound_item (Cons w vs) zero v h at = let same : w ≡ v = cc in subst (λ x. IsSound x) same h.0
sound_item (Cons w vs) (suc k) v h at = sound_item vs k v h.1 at

-- what it gives is a number of the language, if it is a number
abbrev pub Numbers : Out Value → Type 0
Numbers (Gives v left) = HasNumber v
Numbers (Traps c) = Unit {0}
Numbers Lacks = Unit {0}
Numbers Clashes = Unit {0}

whole_numbers : (b : Bool) (z : ℤ) (left : ℕ) → is_num z ≡ b → Numbers (computed (if b then arithmetic.Gives z else arithmetic.Traps Overflow) left)
whole_numbers true z left is = is-num z is
whole_numbers false z left is = tt

divided_numbers : (b : Bool) (z : ℤ) (left : ℕ) → Numbers (computed (if b then arithmetic.Traps DivideByZero else whole z) left)
divided_numbers true z left = tt
divided_numbers false z left = whole_numbers (is_num z) z left refl

left_numbers : (b : Bool) (z : ℤ) (left : ℕ) → IsNum z → Numbers (computed (if b then arithmetic.Traps DivideByZero else arithmetic.Gives z) left)
left_numbers true z left h = tt
left_numbers false z left h = h

shifted_numbers : (b : ℤ) (f : ℕ → Computed) (left : ℕ) → ((n : ℕ) → Numbers (computed (f n) left)) → Numbers (computed (by_count b f) left)
shifted_numbers (pos n) f left h = go (nat_le n max_shift)
  where
    go : (b : Bool) → Numbers (computed (if b then f n else arithmetic.Traps ShiftRange) left)
    go true = h n
    go false = tt
shifted_numbers (negsuc n) f left h = tt

prefixed_numbers : (op : PrefixOp) (v : Value) (left : ℕ) → HasNumber v → Numbers (prefixed op v left)
prefixed_numbers Not (Truth b) left h = tt
prefixed_numbers Not (Num a) left h = tt
prefixed_numbers Not (Items vs) left h = tt
prefixed_numbers Neg (Num a) left h = whole_numbers (is_num (neg_ℤ a)) (neg_ℤ a) left refl
prefixed_numbers Neg (Truth b) left h = tt
prefixed_numbers Neg (Items vs) left h = tt
prefixed_numbers BitNot (Num a) left h = not-is-num a h
prefixed_numbers BitNot (Truth b) left h = tt
prefixed_numbers BitNot (Items vs) left h = tt

numbers_numbers : (op : BinOp) (a b : ℤ) (left : ℕ) → IsNum a → IsNum b → Numbers (of_numbers op a b left)
numbers_numbers Add a b left p q = whole_numbers (is_num (a +ℤ b)) (a +ℤ b) left refl
numbers_numbers Sub a b left p q = whole_numbers (is_num (a -ℤ b)) (a -ℤ b) left refl
numbers_numbers Mul a b left p q = whole_numbers (is_num (a *ℤ b)) (a *ℤ b) left refl
numbers_numbers Div a b left p q = divided_numbers (unsigned_abs b == 0) (int_div a b) left
numbers_numbers Mod a b left p q = left_numbers (unsigned_abs b == 0) (int_rem a b) left (rest-is-num a b p)
numbers_numbers Shl a b left p q = shifted_numbers b (λ n. whole (a *ℤ pos (2 ^ n))) left (λ n. whole_numbers (is_num (a *ℤ pos (2 ^ n))) (a *ℤ pos (2 ^ n)) left refl)
numbers_numbers Shr a b left p q = shifted_numbers b (λ n. arithmetic.Gives (int_shr a n)) left (λ n. shifted-is-num a n p)
numbers_numbers BitAnd a b left p q = and-is-num a b p
numbers_numbers BitOr a b left p q = or-is-num a b p q
numbers_numbers BitXor a b left p q = xor-is-num a b p q
numbers_numbers Eq a b left p q = tt
numbers_numbers Ne a b left p q = tt
numbers_numbers Lt a b left p q = tt
numbers_numbers Le a b left p q = tt
numbers_numbers Gt a b left p q = tt
numbers_numbers Ge a b left p q = tt
numbers_numbers And a b left p q = tt
numbers_numbers Or a b left p q = tt

truths_numbers : (op : BinOp) (a b : Bool) (left : ℕ) → Numbers (of_truths op a b left)
truths_numbers And a b left = tt
truths_numbers Or a b left = tt
truths_numbers Eq a b left = tt
truths_numbers Ne a b left = tt
truths_numbers op a b left = tt

applied_numbers : (op : BinOp) (v w : Value) (left : ℕ) → HasNumber v → HasNumber w → Numbers (applied op v w left)
applied_numbers op (Num a) (Num b) left p q = numbers_numbers op a b left p q
applied_numbers op (Truth a) (Truth b) left p q = truths_numbers op a b left
applied_numbers op v w left p q = tt

-- a number that arithmetic gives is one of the language
both_safe : (r : Interval) (o : Out Value) → Safe (In r) o → Numbers o → Safe (Both r) o
both_safe r (Gives v left) p q = (p, q)
both_safe r (Traps c) p q = p
both_safe r Lacks p q = tt
both_safe r Clashes p q = tt

known_safe : {A : Type 0} (P : A → Type 0) (o : Option A) (left : ℕ) → ((a : A) → o ≡ Some a → P a) → Safe P (known o left)
known_safe P None left h = tt
known_safe P (Some a) left h = h a refl

on_interval_is : {A : Type 0} (o : Option Interval) (f : Interval → Option A) (a : A) → on_interval o f ≡ Some a → (i : Interval) × (o ≡ Some i) × (f i ≡ Some a)
on_interval_is None f a h = cc
on_interval_is (Some i) f a h = (i, refl, h)

on_ranged_is : {A : Type 0} (o : Option Ranged) (f : Ranged → Option A) (a : A) → on_ranged o f ≡ Some a → (x : Ranged) × (o ≡ Some x) × (f x ≡ Some a)
on_ranged_is None f a h = cc
on_ranged_is (Some x) f a h = (x, refl, h)

both_applied : (op : BinOp) (i j r : Interval) (v : Value) (right : ℕ → Out Value) (left : ℕ) → range_of_both op i j ≡ Some r → Both i v
    → ((m : ℕ) → Safe (Both j) (right m)) → Safe (Both r) (and_then (right left) (λ w m. applied op v w m))
both_applied op i j r v right left h p q =
    safe_then (Both j) (Both r) (right left) (λ w m. applied op v w m) (q left)
    (λ w m b. both_safe r (applied op v w m) (applied_safe op i j r v w m p.1 b.1 h p.0 b.0) (applied_numbers op v w m p.1 b.1))

decided : (r : Interval) (b : Bool) (left : ℕ) → Some truths ≡ Some r → Safe (Both r) (Gives (Truth b) left)
decided r b left h = let same : truths ≡ r = cc in (subst (λ w. Lies w (truth b)) same (truth_in b), tt)

-- the right side of an operation is evaluated unless `and` or `or` is decided
right_safe : (op : BinOp) (i j r : Interval) (v : Value) (right : ℕ → Out Value) (left : ℕ) → range_of_both op i j ≡ Some r → Both i v
    → ((m : ℕ) → Safe (Both j) (right m)) → Safe (Both r) (with_right op v right left)
right_safe BitOr i j r v right left h p q = both_applied BitOr i j r v right left h p q
right_safe BitXor i j r v right left h p q = both_applied BitXor i j r v right left h p q
right_safe BitAnd i j r v right left h p q = both_applied BitAnd i j r v right left h p q
right_safe Eq i j r v right left h p q = both_applied Eq i j r v right left h p q
right_safe Ne i j r v right left h p q = both_applied Ne i j r v right left h p q
right_safe Lt i j r v right left h p q = both_applied Lt i j r v right left h p q
right_safe Le i j r v right left h p q = both_applied Le i j r v right left h p q
right_safe Gt i j r v right left h p q = both_applied Gt i j r v right left h p q
right_safe Ge i j r v right left h p q = both_applied Ge i j r v right left h p q
right_safe Shl i j r v right left h p q = both_applied Shl i j r v right left h p q
right_safe Shr i j r v right left h p q = both_applied Shr i j r v right left h p q
right_safe Add i j r v right left h p q = both_applied Add i j r v right left h p q
right_safe Sub i j r v right left h p q = both_applied Sub i j r v right left h p q
right_safe Mul i j r v right left h p q = both_applied Mul i j r v right left h p q
right_safe Div i j r v right left h p q = both_applied Div i j r v right left h p q
right_safe Mod i j r v right left h p q = both_applied Mod i j r v right left h p q
right_safe And i j r (Truth false) right left h p q = decided r false left h
right_safe And i j r (Truth true) right left h p q = both_applied And i j r (Truth true) right left h p q
right_safe And i j r (Num z) right left h p q = both_applied And i j r (Num z) right left h p q
right_safe And i j r (Items vs) right left h p q = both_applied And i j r (Items vs) right left h p q
right_safe Or i j r (Truth true) right left h p q = decided r true left h
right_safe Or i j r (Truth false) right left h p q = both_applied Or i j r (Truth false) right left h p q
right_safe Or i j r (Num z) right left h p q = both_applied Or i j r (Num z) right left h p q
right_safe Or i j r (Items vs) right left h p q = both_applied Or i j r (Items vs) right left h p q

hull_in : (i j : Interval) (v : Value) → In i v → In (hull i j) v
hull_in i j (Num z) h = in_left i j z h
hull_in i j (Truth b) h = in_left i j (truth b) h
hull_in i j (Items vs) h = tt

hull_in_other : (i j : Interval) (v : Value) → In j v → In (hull i j) v
hull_in_other i j (Num z) h = in_right i j z h
hull_in_other i j (Truth b) h = in_right i j (truth b) h
hull_in_other i j (Items vs) h = tt

wider : {A : Type 0} (P Q : A → Type 0) (o : Out A) → ((a : A) → P a → Q a) → Safe P o → Safe Q o
wider P Q (Gives a left) f h = f a h
wider P Q (Traps c) f h = h
wider P Q Lacks f h = tt
wider P Q Clashes f h = tt

chosen_safe : {A : Type 0} (P : A → Type 0) (v : Value) (f g : ℕ → Out A) (left : ℕ) → ((m : ℕ) → Safe P (f m)) → ((m : ℕ) → Safe P (g m)) → Safe P (chosen v f g left)
chosen_safe P (Truth true) f g left p q = p left
chosen_safe P (Truth false) f g left p q = q left
chosen_safe P (Num z) f g left p q = tt
chosen_safe P (Items vs) f g left p q = tt

-- what it gives has numbers of the language alone
abbrev pub GivesSound : Out Value → Type 0
GivesSound (Gives v left) = IsSound v
GivesSound (Traps c) = Unit {0}
GivesSound Lacks = Unit {0}
GivesSound Clashes = Unit {0}

sound_at : (vs : Values) (z : ℤ) (left : ℕ) → AreSound vs → GivesSound (item_at vs z left)
sound_at vs (pos k) left h = go (value_at vs k) refl
  where
    go : (o : Option Value) → value_at vs k ≡ o → GivesSound (elim o [ None ↦ Traps IndexRange | Some v ↦ Gives v left ])
    go None is = tt
    go (Some v) is = sound_item vs k v h is
sound_at vs (negsuc k) left h = tt

both_as : (y : Ranged) (o : Out Value) → Safe (StandsAs y) o → GivesSound o → Safe (As y) o
both_as y (Gives v left) p q = (p, q)
both_as y (Traps c) p q = p
both_as y Lacks p q = tt
both_as y Clashes p q = tt

-- an index finds its item
index_safe : (i : Interval) (x y : Ranged) (v w : Value) (left : ℕ) → item_ranged i x ≡ Some y → As x v → In i w → Safe (As y) (expression.indexed v w left)
index_safe i x y (Items vs) (Num z) left h held lies =
    let item = item_ranged_is i x y x.shape refl h in
    both_as y (item_at vs z left) (item_found i x y item.0 item.1 vs z left item.2 item.3 held.0 lies) (sound_at vs z left held.1)
index_safe i x y (Items vs) (Truth b) left h held lies = tt
index_safe i x y (Items vs) (Items ws) left h held lies = tt
index_safe i x y (Num z) w left h held lies = tt
index_safe i x y (Truth b) w left h held lies = tt

mutual
  pub range_safe : (e : Tree) (calls : Calls) (env : Env) (names : List Ranged) (i : Interval) (left : ℕ) → StandUnder names env → SoundUnder env
      → range e names ≡ Some i → Safe (Both i) (eval e calls env left)
  range_safe (tree.number n at) calls env names i left stand sound h =
      both_safe i (computed (whole (pos n)) left) (fitting_safe (just (pos n)) i (pos n) left h (just_lies (pos n))) (whole_numbers (is_num (pos n)) (pos n) left refl)
  range_safe (tree.truth b at) calls env names i left stand sound h =
      let same : just (truth b) ≡ i = cc in (subst (λ w. Lies w (truth b)) same (just_lies (truth b)), tt)
  range_safe (tree.variable name at) calls env names i left stand sound h =
      let x = on_ranged_is (ranged name names) (λ y. range_of_name y) i h in
      known_safe (Both i) (look_up name env) left
      (λ v there. (name_in x.0 v i x.0.shape refl (stand name x.0 v x.1 there) x.2, number_of v (sound name v there)))
  range_safe (tree.paren e at) calls env names i left stand sound h = range_safe e calls env names i left stand sound h
  range_safe (tree.if_expr test first other at) calls env names i left stand sound h =
      let c = on_interval_is (range test names) _ i h in
      let a = on_interval_is (range first names) _ i c.2 in
      let b = on_interval_is (range other names) _ i a.2 in
      let same : hull a.0 b.0 ≡ i = (let e : Some (hull a.0 b.0) ≡ Some i = b.2 in cc) in
      safe_then (Both c.0) (Both i) (eval test calls env left) _ (range_safe test calls env names c.0 left stand sound c.1)
      (λ v m p. chosen_safe (Both i) v _ _ m
      (λ k. wider (Both a.0) (Both i) (eval first calls env k) (λ w q. (subst (λ r. In r w) same (hull_in a.0 b.0 w q.0), q.1)) (range_safe first calls env names a.0 k stand sound a.1))
      (λ k. wider (Both b.0) (Both i) (eval other calls env k) (λ w q. (subst (λ r. In r w) same (hull_in_other a.0 b.0 w q.0), q.1)) (range_safe other calls env names b.0 k stand sound b.1)))
  range_safe (tree.index base place at) calls env names i left stand sound h =
      let x = on_ranged_is (indexed base names) _ i h in
      let p = on_interval_is (range place names) _ i x.2 in
      let y = on_ranged_is (item_ranged p.0 x.0) _ i p.2 in
      safe_then (As x.0) (Both i) (eval base calls env left) _ (indexed_safe base calls env names x.0 left stand sound x.1)
      (λ v m held. safe_then (Both p.0) (Both i) (eval place calls env m) _ (range_safe place calls env names p.0 m stand sound p.1)
      (λ w k q. wider (As y.0) (Both i) (expression.indexed v w k) (λ u s. (name_in y.0 u i y.0.shape refl s.0 y.2, number_of u s.1))
      (index_safe p.0 x.0 y.0 v w k y.1 held q.0)))
  range_safe (tree.prefix op e at) calls env names i left stand sound h =
      let a = on_interval_is (range e names) _ i h in
      safe_then (Both a.0) (Both i) (eval e calls env left) _ (range_safe e calls env names a.0 left stand sound a.1)
      (λ v m p. both_safe i (prefixed op v m) (prefixed_safe op a.0 i v m p.1 a.2 p.0) (prefixed_numbers op v m p.1))
  range_safe (tree.binary op l r at) calls env names i left stand sound h =
      let a = on_interval_is (range l names) _ i h in
      let b = on_interval_is (range r names) _ i a.2 in
      safe_then (Both a.0) (Both i) (eval l calls env left) _ (range_safe l calls env names a.0 left stand sound a.1)
      (λ v m p. right_safe op a.0 b.0 i v (λ k. eval r calls env k) m b.2 p (λ k. range_safe r calls env names b.0 k stand sound b.1))
  range_safe other calls env names i left stand sound h = cc

  pub indexed_safe : (e : Tree) (calls : Calls) (env : Env) (names : List Ranged) (x : Ranged) (left : ℕ) → StandUnder names env → SoundUnder env
      → indexed e names ≡ Some x → Safe (As x) (eval e calls env left)
  indexed_safe (tree.variable name at) calls env names x left stand sound h =
      known_safe (As x) (look_up name env) left (λ v at. (stand name x v h at, sound name v at))
  indexed_safe (tree.index base place at) calls env names y left stand sound h =
      let x = on_ranged_is (indexed base names) _ y h in
      let p = on_interval_is (range place names) _ y x.2 in
      safe_then (As x.0) (As y) (eval base calls env left) _ (indexed_safe base calls env names x.0 left stand sound x.1)
      (λ v m held. safe_then (Both p.0) (As y) (eval place calls env m) _ (range_safe place calls env names p.0 m stand sound p.1)
      (λ w k q. index_safe p.0 x.0 y v w k p.2 held q.0))
  indexed_safe other calls env names x left stand sound h = cc
