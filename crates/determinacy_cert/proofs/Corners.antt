-- Intervals from their ends, if these are numbers of the language.
use Rattle.std.proofs.Common.{◌≡◌, ℕ, ◌-◌, ◌<◌, ◌≤◌, ◌^◌, Bool, true, false, ℤ, pos, ◌-ℤ◌, ◌≤ℤ◌, refl, sym, ap, ◌∙◌, arith}
use Rattle.std.specs.Prelude.{◌&&◌, cond, int_lt, nat_lt, Option, None, Some, if◌then◌else◌}
use Rattle.std.specs.Int.{int_min, int_max}
use Rattle.std.proofs.lemmas.Int.{ints}
use Rattle.std.proofs.lemmas.Nat.{pow_pos, pow_below}
use Rattle.std.proofs.lemmas.Bool.{ltb-true}
use Rattle.rvc_base.specs.Width.{is_num, num_bound}
use Rattle.cal_model.specs.Certified.{Interval, between, just, hull, fitting}
use Rattle.determinacy_cert.specs.Deciding.{numbered}
use Rattle.determinacy_cert.proofs.Intervals.{Lies, in_left, in_right, Fits, fits, num_between}
use Rattle.determinacy_cert.proofs.BareTrees.{both_true}

numbered_by : (b : Bool) (a z : ℤ) → is_num z ≡ b → Some a ≡ (if b then Some z else None) → (a ≡ z) × (is_num z ≡ true)
numbered_by true a z e h = (let s : a ≡ z = cc in s, e)
numbered_by false a z e h = absurd (cc)

pub is_numbered : (a z : ℤ) → Some a ≡ numbered z → (a ≡ z) × (is_num z ≡ true)
is_numbered a z h = numbered_by (is_num z) a z refl h

misnumbered_by : (b : Bool) (z : ℤ) → is_num z ≡ b → None ≡ (if b then Some z else None) → is_num z ≡ false
misnumbered_by true z e h = absurd (cc)
misnumbered_by false z e h = e

pub is_misnumbered : (z : ℤ) → None ≡ numbered z → is_num z ≡ false
is_misnumbered z h = misnumbered_by (is_num z) z refl h

some_if : (b : Bool) (i : Interval) → b ≡ true → (if b then Some i else None) ≡ Some i
some_if true i h = refl
some_if false i h = cc

pub fits_ends : (i : Interval) → is_num i.low ≡ true → is_num i.high ≡ true → fitting i ≡ Some i
fits_ends i p q = some_if (is_num i.low && is_num i.high) i (both_true (is_num i.low) (is_num i.high) p q)

-- an interval that holds a number which isn't one of the language
pub misfits : (i : Interval) (z : ℤ) → Lies i z → is_num z ≡ false → fitting i ≡ None
misfits i z l h = go (fitting i) refl
  where
    go : (o : Option Interval) → fitting i ≡ o → o ≡ None
    go None e = refl
    go (Some r) e =
        let f : Fits i r = fits i r e in
        let t : is_num z ≡ true = num_between i.low i.high z f.low f.high l.low l.high in cc

itself : (z : ℤ) → Lies (just z) z
itself z = record { low = (let e : z ≤ℤ z = omega (arith, ints) in e); high = (let e : z ≤ℤ z = omega (arith, ints) in e) }

chosen_num : (b : Bool) (x y : ℤ) → is_num x ≡ true → is_num y ≡ true → is_num (cond b x y) ≡ true
chosen_num true x y p q = p
chosen_num false x y p q = q

min_num : (x y : ℤ) → is_num x ≡ true → is_num y ≡ true → is_num (int_min x y) ≡ true
min_num x y p q = chosen_num (int_lt y x) y x q p

max_num : (x y : ℤ) → is_num x ≡ true → is_num y ≡ true → is_num (int_max x y) ≡ true
max_num x y p q = chosen_num (int_lt y x) x y p q

pub hull_fits : (i j : Interval) → is_num i.low ≡ true → is_num i.high ≡ true → is_num j.low ≡ true → is_num j.high ≡ true → fitting (hull i j) ≡ Some (hull i j)
hull_fits i j p q r s = fits_ends (hull i j) (min_num i.low j.low p r) (max_num i.high j.high q s)

abbrev pub corners : ℤ → ℤ → ℤ → ℤ → Interval
corners w x y z = hull (hull (just w) (just x)) (hull (just y) (just z))

pub corners_fit : (w x y z : ℤ) → is_num w ≡ true → is_num x ≡ true → is_num y ≡ true → is_num z ≡ true → fitting (corners w x y z) ≡ Some (corners w x y z)
corners_fit w x y z p q r s = hull_fits (hull (just w) (just x)) (hull (just y) (just z)) (min_num w x p q) (max_num w x p q) (min_num y z r s) (max_num y z r s)

pub first_corner : (w x y z : ℤ) → is_num w ≡ false → fitting (corners w x y z) ≡ None
first_corner w x y z h = misfits (corners w x y z) w (in_left (hull (just w) (just x)) (hull (just y) (just z)) w (in_left (just w) (just x) w (itself w))) h

pub second_corner : (w x y z : ℤ) → is_num x ≡ false → fitting (corners w x y z) ≡ None
second_corner w x y z h = misfits (corners w x y z) x (in_left (hull (just w) (just x)) (hull (just y) (just z)) x (in_right (just w) (just x) x (itself x))) h

pub third_corner : (w x y z : ℤ) → is_num y ≡ false → fitting (corners w x y z) ≡ None
third_corner w x y z h = misfits (corners w x y z) y (in_right (hull (just w) (just x)) (hull (just y) (just z)) y (in_left (just y) (just z) y (itself y))) h

pub fourth_corner : (w x y z : ℤ) → is_num z ≡ false → fitting (corners w x y z) ≡ None
fourth_corner w x y z h = misfits (corners w x y z) z (in_right (hull (just w) (just x)) (hull (just y) (just z)) z (in_right (just y) (just z) z (itself z))) h

none_if : (b c : Bool) (i : Interval) → b ≡ false → (if b && c then Some i else None) ≡ None
none_if true c i h = cc
none_if false c i h = refl

none_if_second : (b c : Bool) (i : Interval) → c ≡ false → (if b && c then Some i else None) ≡ None
none_if_second true true i h = cc
none_if_second true false i h = refl
none_if_second false c i h = refl

pub low_misfits : (l h : ℤ) → is_num l ≡ false → fitting (between l h) ≡ None
low_misfits l h e = none_if (is_num l) (is_num h) (between l h) e

pub high_misfits : (l h : ℤ) → is_num h ≡ false → fitting (between l h) ≡ None
high_misfits l h e = none_if_second (is_num l) (is_num h) (between l h) e

-- ---- powers of 2

-- a number too great for the language
too_great : (m : ℕ) → num_bound ≤ m → is_num (pos m) ≡ false
too_great m h = go (nat_lt m num_bound) refl
  where
    go : (b : Bool) → nat_lt m num_bound ≡ b → nat_lt m num_bound ≡ false
    go true e = let less = ltb-true m num_bound e in absurd (omega arith)
    go false e = e

one_less : (p : ℕ) → 0 < p → pos (p - 1) ≡ pos p -ℤ pos 1
one_less p h = omega (arith, ints)

pub power_less : (b : ℕ) → pos (2 ^ b - 1) ≡ pos (2 ^ b) -ℤ pos 1
power_less b = one_less (2 ^ b) (pow_pos b)

pub great_power : (b : ℕ) → 127 < b → is_num (pos (2 ^ b) -ℤ pos 1) ≡ false
great_power b h =
    let more : 2 ^ 127 < 2 ^ b = pow_below 127 b h in
    ap is_num (sym (power_less b)) ∙ too_great (2 ^ b - 1) (less (2 ^ b) more)
  where
    less : (p : ℕ) → num_bound < p → num_bound ≤ p - 1
    less p h = omega arith

pub numbered_is : (z : ℤ) → is_num z ≡ true → Some z ≡ numbered z
numbered_is z h = go (is_num z) h
  where
    go : (b : Bool) → b ≡ true → Some z ≡ (if b then Some z else None)
    go true e = refl
    go false e = cc

pub unnumbered_is : (z : ℤ) → is_num z ≡ false → None ≡ numbered z
unnumbered_is z h = go (is_num z) h
  where
    go : (b : Bool) → b ≡ false → None ≡ (if b then Some z else None)
    go true e = cc
    go false e = refl

-- ---- four corners that were computed

pub corners_hold : (a b c d w x y z : ℤ) (i j k l m n h : Interval) → Some a ≡ numbered w → Some b ≡ numbered x → Some c ≡ numbered y → Some d ≡ numbered z
    → i ≡ just a → j ≡ just b → k ≡ just c → l ≡ just d → m ≡ hull i j → n ≡ hull k l → h ≡ hull m n → Some h ≡ fitting (corners w x y z)
corners_hold a b c d w x y z i j k l m n h p q r s ei ej ek el em en eh =
    let fa = is_numbered a w p in
    let fb = is_numbered b x q in
    let fc = is_numbered c y r in
    let fd = is_numbered d z s in
    let is_i : i ≡ just w = ei ∙ ap just fa.0 in
    let is_j : j ≡ just x = ej ∙ ap just fb.0 in
    let is_k : k ≡ just y = ek ∙ ap just fc.0 in
    let is_l : l ≡ just z = el ∙ ap just fd.0 in
    let is_m : m ≡ hull (just w) (just x) = em ∙ ap (λ e. hull e j) is_i ∙ ap (hull (just w)) is_j in
    let is_n : n ≡ hull (just y) (just z) = en ∙ ap (λ e. hull e l) is_k ∙ ap (hull (just y)) is_l in
    ap (λ e. Some e) (eh ∙ ap (λ e. hull e n) is_m ∙ ap (hull (hull (just w) (just x))) is_n)
    ∙ sym (corners_fit w x y z fa.1 fb.1 fc.1 fd.1)
