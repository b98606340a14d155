-- What has a range never traps, and gives a number within it.
use Rattle.std.proofs.Common.{◌≡◌, ℕ, zero, suc, ◌-◌, ◌<◌, Bool, true, false, ℤ, pos, negsuc, ◌+ℤ◌, ◌-ℤ◌, ◌*ℤ◌, ◌≤ℤ◌, ◌<ℤ◌, refl, sym, subst, arith}
use Rattle.std.specs.Prelude.{Option, None, Some, if◌then◌else◌, ◌&&◌, ◌==◌, not, nat_le, neg_ℤ, int_lt, int_le, int_div, int_rem}
use Rattle.std.specs.Int.{int_shr}
use Rattle.std.proofs.lemmas.Int.{ints}
use Rattle.std.proofs.lemmas.Bool.{le-leb, ne_eqb}
use Rattle.std.proofs.lemmas.Float.{T_from_true}
use Rattle.std.specs.Int.Signed.{lt_z_yes, le_z_yes}
use Rattle.cal_model.proofs.Numbers.{and-is-num, or-is-num, xor-is-num, not-is-num}
use Rattle.rvc_base.specs.Width.{is_num, max_shift, IsNum, num_bound}
use Rattle.rvc_base.specs.Arithmetic.{Computed, whole, add, sub, mul, neg, div, rem, by_count, shr, bit_and, bit_or, bit_xor, bit_not, truth}
use Rattle.rvc_base.specs.Arithmetic as arithmetic
use Rattle.rvc_base.specs.declared.trap.Trap.TheVariants.{Overflow, DivideByZero}
use Rattle.cal_ast.specs.declared.expr.PrefixOp.{PrefixOp}
use Rattle.cal_ast.specs.declared.expr.PrefixOp.TheVariants.{Not, Neg, BitNot}
use Rattle.cal_ast.specs.declared.expr.BinOp.{BinOp}
use Rattle.cal_ast.specs.declared.expr.BinOp.TheVariants.{Or, And, BitOr, BitXor, BitAnd, Eq, Ne, Lt, Le, Gt, Ge, Shl, Shr, Add, Sub, Mul, Div, Mod}
use Rattle.cal_model.specs.Value.{Value, Num, Truth, Items}
use Rattle.cal_model.specs.Outcome.{Out, Gives, Traps, Lacks, Clashes, and_then}
use Rattle.cal_model.specs.Expression.{computed, prefixed, of_numbers, of_truths, applied}
use Rattle.cal_model.specs.Certified.{Interval, between, just, hull, truths, all_numbers, fitting, lies_within, range_of_prefix, range_of_both}
use Rattle.determinacy_cert.proofs.Intervals.{Lies, product_lies, sum_lies, difference_lies, negative_lies, towards_zero, quotient_low, quotient_high, shift_low, shift_high, remainder_lies, Fits, fits, num_between}

-- ---- outcomes

abbrev pub In : Interval → Value → Type 0
In i (Num z) = Lies i z
In i (Truth b) = Lies i (truth b)
In i (Items vs) = Unit {0}

-- a number of the language
abbrev pub HasNumber : Value → Type 0
HasNumber (Num z) = IsNum z
HasNumber (Truth b) = Unit {0}
HasNumber (Items vs) = Unit {0}

-- it gives only such, and never traps; that it neither lacks nor clashes is another matter
abbrev pub Safe : {A : Type 0} → (A → Type 0) → Out A → Type 0
Safe P (Gives a left) = P a
Safe P (Traps c) = ⊥
Safe P Lacks = Unit {0}
Safe P Clashes = Unit {0}

pub safe_then : {A B : Type 0} (P : A → Type 0) (Q : B → Type 0) (o : Out A) (f : A → ℕ → Out B)
    → Safe P o → ((a : A) (left : ℕ) → P a → Safe Q (f a left)) → Safe Q (and_then o f)
safe_then P Q (Gives a left) f h k = k a left h
safe_then P Q (Traps c) f h k = absurd h
safe_then P Q Lacks f h k = tt
safe_then P Q Clashes f h k = tt

pub two_true : (a b : Bool) → (a && b) ≡ true → (a ≡ true) × (b ≡ true)
two_true true b h = (refl, h)
two_true false b h = cc

-- ---- numbers

whole_safe : (b : Bool) (i : Interval) (z : ℤ) (left : ℕ) → b ≡ true → Lies i z → Safe (In i) (computed (if b then arithmetic.Gives z else arithmetic.Traps Overflow) left)
whole_safe true i z left is h = h
whole_safe false i z left refused h = absurd (cc)

-- a whole number within an interval of numbers of the language
pub fitting_safe : (i r : Interval) (z : ℤ) (left : ℕ) → fitting i ≡ Some r → Lies i z → Safe (In r) (computed (whole z) left)
fitting_safe i r z left h l =
    let f : Fits i r = fits i r h in
    subst (λ w. Safe (In w) (computed (whole z) left)) (sym f.same)
    (whole_safe (is_num z) i z left (num_between i.low i.high z f.low f.high l.low l.high) l)

pub lies_as : (i r : Interval) (z : ℤ) → fitting i ≡ Some r → Lies i z → Lies r z
lies_as i r z h l = subst (λ w. Lies w z) (sym (fits i r h).same) l

above_zero : (j : Interval) → int_lt (pos 0) j.low ≡ true → pos 0 <ℤ j.low
above_zero j h = lt_z_yes (T_from_true (int_lt (pos 0) j.low) h)

pub at_least : (a b : ℤ) → int_le a b ≡ true → a ≤ℤ b
at_least a b h = le_z_yes (T_from_true (int_le a b) h)

-- a divisor above 0
divisor : (j : Interval) (b : ℤ) → int_lt (pos 0) j.low ≡ true → Lies j b → (k : ℕ) × (b ≡ pos (suc k))
divisor j (pos zero) above l = let p : pos 0 <ℤ j.low = above_zero j above in absurd (omega (arith, ints))
divisor j (pos (suc k)) above l = (k, refl)
divisor j (negsuc n) above l = let p : pos 0 <ℤ j.low = above_zero j above in absurd (omega (arith, ints))

pub truth_in : (b : Bool) → Lies truths (truth b)
truth_in true = record { low = omega (arith, ints); high = omega (arith, ints) }
truth_in false = record { low = omega (arith, ints); high = omega (arith, ints) }

num_in : (z : ℤ) → IsNum z → Lies all_numbers z
num_in (pos n) h =
    let e : n < num_bound = omega (arith, ints) in
    record { low = (let l : negsuc (num_bound - 1) ≤ℤ pos n = omega (arith, ints) in l); high = (let u : pos n ≤ℤ pos (num_bound - 1) = omega (arith, ints) in u) }
num_in (negsuc n) h =
    let e : n < num_bound = omega (arith, ints) in
    record { low = (let l : negsuc (num_bound - 1) ≤ℤ negsuc n = omega (arith, ints) in l); high = (let u : negsuc n ≤ℤ pos (num_bound - 1) = omega (arith, ints) in u) }

-- ---- operators on numbers

bits_safe : (i : Interval) (z : ℤ) (left : ℕ) → Some all_numbers ≡ Some i → IsNum z → Safe (In i) (Gives (Num z) left)
bits_safe i z left h fit = let same : all_numbers ≡ i = cc in subst (λ w. Lies w z) same (num_in z fit)

truths_safe : (r : Interval) (b : Bool) (left : ℕ) → Some truths ≡ Some r → Safe (In r) (Gives (Truth b) left)
truths_safe r b left h = let same : truths ≡ r = cc in subst (λ w. Lies w (truth b)) same (truth_in b)

pub prefixed_safe : (op : PrefixOp) (i r : Interval) (v : Value) (left : ℕ) → HasNumber v → range_of_prefix op i ≡ Some r → In i v → Safe (In r) (prefixed op v left)
prefixed_safe Not i r (Truth b) left n h p = truths_safe r (not b) left h
prefixed_safe Not i r (Num z) left n h p = tt
prefixed_safe Not i r (Items vs) left n h p = tt
prefixed_safe Neg i r (Num a) left n h p = fitting_safe _ r (neg_ℤ a) left h (negative_lies i a p)
prefixed_safe Neg i r (Truth b) left n h p = tt
prefixed_safe Neg i r (Items vs) left n h p = tt
prefixed_safe BitNot i r (Num a) left n h p = bits_safe r (bit_not a) left h (not-is-num a n)
prefixed_safe BitNot i r (Truth b) left n h p = tt
prefixed_safe BitNot i r (Items vs) left n h p = tt

-- if a divisor is above 0, nothing traps
if_above : {A : Type 0} (b : Bool) (o : Option A) (r : A) → (if b then o else None) ≡ Some r → (b ≡ true) × (o ≡ Some r)
if_above true o r h = (refl, h)
if_above false o r h = cc

not_zero : (k : ℕ) → (suc k == 0) ≡ false
not_zero k = ne_eqb (suc k) 0 (λ e. absurd (omega arith))

if_not : {A : Type 0} (b : Bool) (x y : A) → b ≡ false → (if b then x else y) ≡ y
if_not true x y h = cc
if_not false x y h = refl

quotient_is : (a : ℤ) (k : ℕ) → div a (pos (suc k)) ≡ whole (int_div a (pos (suc k)))
quotient_is a k = if_not (suc k == 0) (arithmetic.Traps DivideByZero) (whole (int_div a (pos (suc k)))) (not_zero k)

remainder_is : (a : ℤ) (k : ℕ) → rem a (pos (suc k)) ≡ arithmetic.Gives (int_rem a (pos (suc k)))
remainder_is a k = if_not (suc k == 0) (arithmetic.Traps DivideByZero) (arithmetic.Gives (int_rem a (pos (suc k)))) (not_zero k)

quotient_safe : (i j r : Interval) (a b : ℤ) (left : ℕ) → (if int_lt (pos 0) j.low then fitting (hull i (just (pos 0))) else None) ≡ Some r
    → Lies i a → Lies j b → Safe (In r) (computed (div a b) left)
quotient_safe i j r a b left h p q =
    let both = if_above (int_lt (pos 0) j.low) (fitting (hull i (just (pos 0)))) r h in
    let d = divisor j b both.0 q in
    subst (λ w. Safe (In r) (computed (div a w) left)) (sym d.1)
    (subst (λ w. Safe (In r) (computed w left)) (sym (quotient_is a d.0))
    (fitting_safe (hull i (just (pos 0))) r (int_div a (pos (suc d.0))) left both.1
    (towards_zero i a (int_div a (pos (suc d.0))) p (quotient_low a d.0) (quotient_high a d.0))))

remainder_in : (j : Interval) (a : ℤ) (k : ℕ) → Lies j (pos (suc k)) → Lies (between (pos 1 -ℤ j.high) (j.high -ℤ pos 1)) (int_rem a (pos (suc k)))
remainder_in j a k l =
    let small = remainder_lies a k in
    let x : neg_ℤ (pos k) ≤ℤ int_rem a (pos (suc k)) = small.0 in
    let y : int_rem a (pos (suc k)) ≤ℤ pos k = small.1 in
    let top : pos (suc k) ≤ℤ j.high = l.high in
    ends (int_rem a (pos (suc k))) j.high k x y top
  where
    ends : (z h : ℤ) (k : ℕ) → neg_ℤ (pos k) ≤ℤ z → z ≤ℤ pos k → pos (suc k) ≤ℤ h → Lies (between (pos 1 -ℤ h) (h -ℤ pos 1)) z
    ends z h k x y top =
        let low : (pos 1 -ℤ h) ≤ℤ z = omega (arith, ints) in
        let high : z ≤ℤ (h -ℤ pos 1) = omega (arith, ints) in
        record { low = low; high = high }

remainder_safe : (i j r : Interval) (a b : ℤ) (left : ℕ)
    → (if int_lt (pos 0) j.low then fitting (between (pos 1 -ℤ j.high) (j.high -ℤ pos 1)) else None) ≡ Some r
    → Lies j b → Safe (In r) (computed (rem a b) left)
remainder_safe i j r a b left h q =
    let both = if_above (int_lt (pos 0) j.low) (fitting (between (pos 1 -ℤ j.high) (j.high -ℤ pos 1))) r h in
    let d = divisor j b both.0 q in
    subst (λ w. Safe (In r) (computed (rem a w) left)) (sym d.1)
    (subst (λ w. Safe (In r) (computed w left)) (sym (remainder_is a d.0))
    (lies_as _ r (int_rem a (pos (suc d.0))) both.1 (remainder_in j a d.0 (subst (λ w. Lies j w) d.1 q))))

count_fits : (n : ℕ) → pos n ≤ℤ pos max_shift → nat_le n max_shift ≡ true
count_fits n h = le-leb n max_shift (omega (arith, ints))

shift_safe : (i j r : Interval) (a b : ℤ) (left : ℕ) → (if lies_within j (pos 0) (pos max_shift) then fitting (hull i (just (pos 0))) else None) ≡ Some r
    → Lies i a → Lies j b → Safe (In r) (computed (shr a b) left)
shift_safe i j r a (pos n) left h p q =
    let both = if_above (lies_within j (pos 0) (pos max_shift)) (fitting (hull i (just (pos 0)))) r h in
    let ends = two_true (int_le (pos 0) j.low) (int_le j.high (pos max_shift)) both.0 in
    let top : j.high ≤ℤ pos max_shift = at_least j.high (pos max_shift) ends.1 in
    let here : pos n ≤ℤ j.high = q.high in
    let few : nat_le n max_shift ≡ true = count_fits n (omega (arith, ints)) in
    rw few (lies_as (hull i (just (pos 0))) r (int_shr a n) both.1 (towards_zero i a (int_shr a n) p (shift_low a n) (shift_high a n)))
shift_safe i j r a (negsuc n) left h p q =
    let both = if_above (lies_within j (pos 0) (pos max_shift)) (fitting (hull i (just (pos 0)))) r h in
    let ends = two_true (int_le (pos 0) j.low) (int_le j.high (pos max_shift)) both.0 in
    let bottom : pos 0 ≤ℤ j.low = at_least (pos 0) j.low ends.0 in
    let here : j.low ≤ℤ negsuc n = q.low in
    absurd (omega (arith, ints))

numbers_safe : (op : BinOp) (i j r : Interval) (a b : ℤ) (left : ℕ) → IsNum a → IsNum b → range_of_both op i j ≡ Some r → Lies i a → Lies j b → Safe (In r) (of_numbers op a b left)
numbers_safe Add i j r a b left fa fb h p q = fitting_safe _ r (a +ℤ b) left h (sum_lies i j a b p q)
numbers_safe Sub i j r a b left fa fb h p q = fitting_safe _ r (a -ℤ b) left h (difference_lies i j a b p q)
numbers_safe Mul i j r a b left fa fb h p q = fitting_safe _ r (a *ℤ b) left h (product_lies i j a b p q)
numbers_safe Div i j r a b left fa fb h p q = quotient_safe i j r a b left h p q
numbers_safe Mod i j r a b left fa fb h p q = remainder_safe i j r a b left h q
numbers_safe Shl i j r a b left fa fb h p q = cc
numbers_safe Shr i j r a b left fa fb h p q = shift_safe i j r a b left h p q
numbers_safe BitAnd i j r a b left fa fb h p q = bits_safe r (bit_and a b) left h (and-is-num a b fa)
numbers_safe BitOr i j r a b left fa fb h p q = bits_safe r (bit_or a b) left h (or-is-num a b fa fb)
numbers_safe BitXor i j r a b left fa fb h p q = bits_safe r (bit_xor a b) left h (xor-is-num a b fa fb)
numbers_safe Eq i j r a b left fa fb h p q = truths_safe r _ left h
numbers_safe Ne i j r a b left fa fb h p q = truths_safe r _ left h
numbers_safe Lt i j r a b left fa fb h p q = truths_safe r _ left h
numbers_safe Le i j r a b left fa fb h p q = truths_safe r _ left h
numbers_safe Gt i j r a b left fa fb h p q = truths_safe r _ left h
numbers_safe Ge i j r a b left fa fb h p q = truths_safe r _ left h
numbers_safe And i j r a b left fa fb h p q = tt
numbers_safe Or i j r a b left fa fb h p q = tt

truth_values_safe : (op : BinOp) (i j r : Interval) (a b : Bool) (left : ℕ) → range_of_both op i j ≡ Some r → Safe (In r) (of_truths op a b left)
truth_values_safe And i j r a b left h = truths_safe r _ left h
truth_values_safe Or i j r a b left h = truths_safe r _ left h
truth_values_safe Eq i j r a b left h = truths_safe r _ left h
truth_values_safe Ne i j r a b left h = truths_safe r _ left h
truth_values_safe op i j r a b left h = tt

pub applied_safe : (op : BinOp) (i j r : Interval) (v w : Value) (left : ℕ) → HasNumber v → HasNumber w → range_of_both op i j ≡ Some r → In i v → In j w
    → Safe (In r) (applied op v w left)
applied_safe op i j r (Num a) (Num b) left n m h p q = numbers_safe op i j r a b left n m h p q
applied_safe op i j r (Truth a) (Truth b) left n m h p q = truth_values_safe op i j r a b left h
applied_safe op i j r v w left n m h p q = tt

pub just_lies : (z : ℤ) → Lies (just z) z
just_lies z = record { low = (let e : z ≤ℤ z = omega (arith, ints) in e); high = (let e : z ≤ℤ z = omega (arith, ints) in e) }
