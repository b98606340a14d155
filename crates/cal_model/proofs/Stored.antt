-- What is stored in a type is in it.
use Rattle.std.proofs.Common.{◌≡◌, ℕ, zero, suc, ◌+◌, ◌-◌, ◌*◌, ◌%◌, ◌^◌, ◌<◌, ◌≤◌, ◌⊎◌, inl, inr, ℤ, pos, negsuc, ◌+ℤ◌, ◌-ℤ◌, Bool, true, false, refl, sym, ap, ◌∙◌, arith, rules, pow-add, pow_pos}
use Rattle.std.specs.Prelude.{unsigned_abs, nat_lt, if◌then◌else◌, ◌<ℤ◌, ◌≤ℤ◌, ◌==◌}
use Rattle.std.proofs.Math.Nat.{mod-eq_of_lt}
use Rattle.std.proofs.lemmas.Bool.{ltb-true, lt-ltb}
use Rattle.std.proofs.lemmas.Int.{ints}
use Rattle.rvc_base.specs.declared.scalar.Scalar.{Scalar}
use Rattle.rvc_base.specs.declared.scalar.Scalar.TheVariants as scalar
use Rattle.rvc_base.specs.Storing.{conv, low_part, IsSize, InRange}
use Rattle.cal_model.specs.Value.{Shape, Single, Many, Value, Num, Truth, Items, Values, Nil, Cons, count, kind_of_type, stored, stored_each, zero_of, repeated, HasKind, HaveKind, IsOf, AreOf, IsType}

low-part-below : (n : ℕ) (v : ℤ) → low_part n v < 2 ^ n
low-part-below n (pos a) = let h : 0 < 2 ^ n = pow_pos n in omega arith
low-part-below n (negsuc a) = let h : 0 < 2 ^ n = pow_pos n in omega arith

halves : (n : ℕ) → 1 ≤ n → 2 ^ n ≡ 2 ^ (n - 1) + 2 ^ (n - 1)
halves n h =
    let e : n ≡ n - 1 + 1 = omega arith in
    let p : 2 ^ (n - 1 + 1) ≡ 2 ^ (n - 1) * 2 ^ 1 = pow-add 2 (n - 1) 1 in
    ap (λ k. 2 ^ k) e ∙ p ∙ omega arith

in-half : (b : Bool) (r h w : ℕ) → nat_lt r h ≡ b → w ≡ h + h → r < w
    → (pos 0 ≤ℤ ((if b then pos r else pos r -ℤ pos w) +ℤ pos h)) × ((if b then pos r else pos r -ℤ pos w) <ℤ pos h)
in-half true r h w e f g = grind (arith, ints, rules)
in-half false r h w e f g = grind (arith, ints, rules)

zero-or-one : (b : Bool) → ((if b then pos 0 else pos 1) ≡ pos 0) ⊎ ((if b then pos 0 else pos 1) ≡ pos 1)
zero-or-one true = inl refl
zero-or-one false = inr refl

pub conv-in-range : (t : Scalar) (v : ℤ) → IsSize t → InRange t (conv t v)
conv-in-range scalar.Bool v h = zero-or-one (unsigned_abs v == 0)
conv-in-range (scalar.Int n) v h =
    in-half (nat_lt (low_part n v) (2 ^ (n - 1))) (low_part n v) (2 ^ (n - 1)) (2 ^ n) refl (halves n h.0) (low-part-below n v)
conv-in-range (scalar.Uint n) v h = let e : low_part n v < 2 ^ n = low-part-below n v in grind (arith, ints)

count-stored : (t : Shape) (vs : Values) → count (stored_each t vs) ≡ count vs
count-stored t Nil = refl
count-stored t (Cons v vs) = ap suc (count-stored t vs)

mutual
  pub stored-is-of : (v : Value) (t : Shape) → IsType t → HasKind (kind_of_type t) v → IsOf t (stored t v)
  stored-is-of (Num z) (Single scalar.Bool) h k = absurd k
  stored-is-of (Num z) (Single (scalar.Int n)) h k = conv-in-range (scalar.Int n) z h
  stored-is-of (Num z) (Single (scalar.Uint n)) h k = conv-in-range (scalar.Uint n) z h
  stored-is-of (Num z) (Many n items) h k = absurd k
  stored-is-of (Truth b) (Single scalar.Bool) h k = tt
  stored-is-of (Truth b) (Single (scalar.Int n)) h k = absurd k
  stored-is-of (Truth b) (Single (scalar.Uint n)) h k = absurd k
  stored-is-of (Truth b) (Many n items) h k = absurd k
  stored-is-of (Items vs) (Single scalar.Bool) h k = absurd k
  stored-is-of (Items vs) (Single (scalar.Int n)) h k = absurd k
  stored-is-of (Items vs) (Single (scalar.Uint n)) h k = absurd k
  stored-is-of (Items vs) (Many n items) h k = (count-stored items vs ∙ k.0, stored-are-of vs items h.2 k.1)

  stored-are-of : (vs : Values) (t : Shape) → IsType t → HaveKind (kind_of_type t) vs → AreOf t (stored_each t vs)
  stored-are-of Nil t h k = tt
  stored-are-of (Cons v vs) t h k = (stored-is-of v t h k.0, stored-are-of vs t h k.1)

count-repeated : (n : ℕ) (v : Value) → count (repeated n v) ≡ n
count-repeated zero v = refl
count-repeated (suc n) v = ap suc (count-repeated n v)

all-repeated : (n : ℕ) (t : Shape) (v : Value) → IsOf t v → AreOf t (repeated n v)
all-repeated zero t v h = tt
all-repeated (suc n) t v h = (h, all-repeated n t v h)

pub zero-is-of : (t : Shape) → IsType t → IsOf t (zero_of t)
zero-is-of (Single scalar.Bool) h = tt
zero-is-of (Single (scalar.Int n)) h = let e : 0 < 2 ^ (n - 1) = pow_pos (n - 1) in grind (arith, ints)
zero-is-of (Single (scalar.Uint n)) h = let e : 0 < 2 ^ n = pow_pos n in grind (arith, ints)
zero-is-of (Many n items) h = (count-repeated n (zero_of items), all-repeated n items (zero_of items) (zero-is-of items h.2))

-- ---- what is in a type stays as it is

stays-unsigned : (n : ℕ) (v : ℤ) → InRange (scalar.Uint n) v → conv (scalar.Uint n) v ≡ v
stays-unsigned n (pos a) h =
    let less : a < 2 ^ n = omega (arith, ints) in
    ap pos (mod-eq_of_lt less)
stays-unsigned n (negsuc a) h = absurd (omega (arith, ints))

-- a number below 0 in two's complement
below-zero : (a h w : ℕ) (b : Bool) → nat_lt (w - 1 - a % w) h ≡ b → w ≡ h + h → a < h → (if b then pos (w - 1 - a % w) else pos (w - 1 - a % w) -ℤ pos w) ≡ negsuc a
below-zero a h w true e f g =
    let within : a < w = omega arith in
    let k : a % w ≡ a = mod-eq_of_lt within in
    let less : w - 1 - a % w < h = ltb-true (w - 1 - a % w) h e in
    absurd (omega arith)
below-zero a h w false e f g =
    let within : a < w = omega arith in
    let k : a % w ≡ a = mod-eq_of_lt within in
    omega (arith, ints)

above-zero : (a h w : ℕ) (b : Bool) → nat_lt (a % w) h ≡ b → w ≡ h + h → a < h → (if b then pos (a % w) else pos (a % w) -ℤ pos w) ≡ pos a
above-zero a h w true e f g = let within : a < w = omega arith in ap pos (mod-eq_of_lt within)
above-zero a h w false e f g =
    let within : a < w = omega arith in
    let k : a % w ≡ a = mod-eq_of_lt within in
    let less : a % w < h = omega arith in
    let t : nat_lt (a % w) h ≡ true = lt-ltb (a % w) h less in
    let u : true ≡ false = sym t ∙ e in
    absurd (grind arith)

stays-signed : (n : ℕ) (v : ℤ) → 1 ≤ n → InRange (scalar.Int n) v → conv (scalar.Int n) v ≡ v
stays-signed n (pos a) s h =
    above-zero a (2 ^ (n - 1)) (2 ^ n) (nat_lt (a % 2 ^ n) (2 ^ (n - 1))) refl (halves n s) (omega (arith, ints))
stays-signed n (negsuc a) s h =
    below-zero a (2 ^ (n - 1)) (2 ^ n) (nat_lt (2 ^ n - 1 - a % 2 ^ n) (2 ^ (n - 1))) refl (halves n s) (omega (arith, ints))

stays-truth : (v : ℤ) → InRange scalar.Bool v → conv scalar.Bool v ≡ v
stays-truth v (inl h) = rw h refl
stays-truth v (inr h) = rw h refl

-- a number of a type's range stays as it is when it is stored
pub conv-stays : (t : Scalar) (v : ℤ) → IsSize t → InRange t v → conv t v ≡ v
conv-stays scalar.Bool v s h = stays-truth v h
conv-stays (scalar.Int n) v s h = stays-signed n v s.0 h
conv-stays (scalar.Uint n) v s h = stays-unsigned n v h

mutual
  pub stored-stays : (v : Value) (t : Shape) → IsType t → IsOf t v → stored t v ≡ v
  stored-stays (Num z) (Single scalar.Bool) h k = absurd k
  stored-stays (Num z) (Single (scalar.Int n)) h k = ap Num (stays-signed n z h.0 k)
  stored-stays (Num z) (Single (scalar.Uint n)) h k = ap Num (stays-unsigned n z k)
  stored-stays (Num z) (Many n items) h k = absurd k
  stored-stays (Truth true) (Single scalar.Bool) h k = refl
  stored-stays (Truth false) (Single scalar.Bool) h k = refl
  stored-stays (Truth b) (Single (scalar.Int n)) h k = absurd k
  stored-stays (Truth b) (Single (scalar.Uint n)) h k = absurd k
  stored-stays (Truth b) (Many n items) h k = absurd k
  stored-stays (Items vs) (Single t) h k = absurd k
  stored-stays (Items vs) (Many n items) h k = ap Items (stored-all-stay vs items h.2 k.1)

  stored-all-stay : (vs : Values) (t : Shape) → IsType t → AreOf t vs → stored_each t vs ≡ vs
  stored-all-stay Nil t h k = refl
  stored-all-stay (Cons v vs) t h k = ap (λ w. Cons w (stored_each t vs)) (stored-stays v t h k.0) ∙ ap (Cons v) (stored-all-stay vs t h k.1)
