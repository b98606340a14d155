-- The table of comparisons says which of them no whole number meets both.
use Rattle.std.proofs.Common.{◌≡◌, ◌≢◌, Bool, true, false, ℤ, pos, ◌+ℤ◌, ◌-ℤ◌, ◌≤ℤ◌, ◌<ℤ◌, refl, sym, ap, subst, arith}
use Rattle.std.specs.Prelude.{int_le, int_lt, not, T}
use Rattle.std.specs.Ordering.{int_eq}
use Rattle.std.specs.Int.{int_min, int_max}
use Rattle.std.proofs.lemmas.Int.{ints, int_min_is, int_max_is}
use Rattle.std.proofs.lemmas.Float.{T_from_true}
use Rattle.std.proofs.lemmas.Bool.Decides.{Decides-int_eq}
use Rattle.std.specs.Int.Signed.{lt_z_yes, lt_z_no, le_z_yes}
use Rattle.cal_ast.specs.declared.expr.BinOp.{BinOp}
use Rattle.cal_ast.specs.declared.expr.BinOp.TheVariants.{Eq, Ne, Lt, Le, Gt, Ge}
use Rattle.cal_model.specs.Certified.{Holds, is_comparison}
use Rattle.determinacy_cert.specs.Deciding.{fails, never_below, never_up_to, never_above, never_from, never_besides, never_both}

-- ---- tests of whole numbers

pub lt_if : (a b : ℤ) → int_lt a b ≡ true → a <ℤ b
lt_if a b h = lt_z_yes (T_from_true (int_lt a b) h)

pub lt_not : (a b : ℤ) → int_lt a b ≡ false → b ≤ℤ a
lt_not a b h = lt_z_no (T_from_true (not (int_lt a b)) (ap not h))

pub le_if : (a b : ℤ) → int_le a b ≡ true → a ≤ℤ b
le_if a b h = le_z_yes (T_from_true (int_le a b) h)

pub le_not : (a b : ℤ) → int_le a b ≡ false → b <ℤ a
le_not a b h = go (int_lt b a) refl
  where
    go : (t : Bool) → int_lt b a ≡ t → b <ℤ a
    go true e = lt_if b a e
    go false e = let other : a ≤ℤ b = lt_not b a e in absurd (subst T h other.le)

pub eq_if : (a b : ℤ) → int_eq a b ≡ true → a ≡ b
eq_if a b h = (Decides-int_eq a b).0 h

pub eq_not : (a b : ℤ) → int_eq a b ≡ false → a ≢ b
eq_not a b h same = let t : int_eq a b ≡ true = (Decides-int_eq a b).1 same in cc

not_true : (b : Bool) → not b ≡ true → b ≡ false
not_true true h = cc
not_true false h = refl

not_false : (b : Bool) → not b ≡ false → b ≡ true
not_false true h = refl
not_false false h = cc

pub by_false : (b : Bool) → (b ≡ false → ⊥) → b ≡ true
by_false true h = refl
by_false false h = absurd (h refl)

-- ---- what never meets both

fails_if : (op : BinOp) (z n : ℤ) → fails op z n ≡ true → Holds op z n → ⊥
fails_if Eq z n h k = eq_not z n (not_true (int_eq z n) h) k
fails_if Ne z n h k = k (eq_if z n h)
fails_if Lt z n h k = let e = le_if n z h in omega (arith, ints)
fails_if Le z n h k = let e = lt_if n z h in omega (arith, ints)
fails_if Gt z n h k = let e = le_if z n h in omega (arith, ints)
fails_if Ge z n h k = let e = lt_if z n h in omega (arith, ints)
fails_if op z n h k = k

below_if : (n : ℤ) (other : BinOp) (m z : ℤ) → never_below n other m ≡ true → z <ℤ n → Holds other z m → ⊥
below_if n Eq m z h p k = let e = le_if n m h in omega (arith, ints)
below_if n Gt m z h p k = let e = le_if n (m +ℤ pos 1) h in omega (arith, ints)
below_if n Ge m z h p k = let e = le_if n m h in omega (arith, ints)
below_if n op m z h p k = absurd (cc)

up_to_if : (n : ℤ) (other : BinOp) (m z : ℤ) → never_up_to n other m ≡ true → z ≤ℤ n → Holds other z m → ⊥
up_to_if n Eq m z h p k = let e = lt_if n m h in omega (arith, ints)
up_to_if n Gt m z h p k = let e = le_if n m h in omega (arith, ints)
up_to_if n Ge m z h p k = let e = lt_if n m h in omega (arith, ints)
up_to_if n op m z h p k = absurd (cc)

above_if : (n : ℤ) (other : BinOp) (m z : ℤ) → never_above n other m ≡ true → n <ℤ z → Holds other z m → ⊥
above_if n Eq m z h p k = let e = le_if m n h in omega (arith, ints)
above_if n Lt m z h p k = let e = le_if m (n +ℤ pos 1) h in omega (arith, ints)
above_if n Le m z h p k = let e = le_if m n h in omega (arith, ints)
above_if n op m z h p k = absurd (cc)

from_if : (n : ℤ) (other : BinOp) (m z : ℤ) → never_from n other m ≡ true → n ≤ℤ z → Holds other z m → ⊥
from_if n Eq m z h p k = let e = lt_if m n h in omega (arith, ints)
from_if n Lt m z h p k = let e = le_if m n h in omega (arith, ints)
from_if n Le m z h p k = let e = lt_if m n h in omega (arith, ints)
from_if n op m z h p k = absurd (cc)

besides_if : (n : ℤ) (other : BinOp) (m z : ℤ) → never_besides n other m ≡ true → z ≢ n → Holds other z m → ⊥
besides_if n Eq m z h p k = let e = eq_if n m h in omega (arith, ints)
besides_if n op m z h p k = absurd (cc)

pub never_if : (op other : BinOp) (n m : ℤ) → never_both op n other m ≡ true → (z : ℤ) → Holds op z n → ¬ Holds other z m
never_if Eq other n m h z p k = fails_if other n m h (subst (λ w. Holds other w m) p k)
never_if Ne other n m h z p k = besides_if n other m z h p k
never_if Lt other n m h z p k = below_if n other m z h p k
never_if Le other n m h z p k = up_to_if n other m z h p k
never_if Gt other n m h z p k = above_if n other m z h p k
never_if Ge other n m h z p k = from_if n other m z h p k
never_if op other n m h z p k = p

-- ---- .. and the other way round, by a number that meets both

below_both : (n m : ℤ) → (z : ℤ) × ((z <ℤ n) × (z <ℤ m))
below_both n m = let e = int_min_is n m in (int_min n m -ℤ pos 1, (omega (arith, ints), omega (arith, ints)))

above_both : (n m : ℤ) → (z : ℤ) × ((n <ℤ z) × (m <ℤ z))
above_both n m = let e = int_max_is n m in (int_max n m +ℤ pos 1, (omega (arith, ints), omega (arith, ints)))

same_le : (n : ℤ) → n ≤ℤ n
same_le n = omega (arith, ints)

next_lt : (n : ℤ) → n <ℤ (n +ℤ pos 1)
next_lt n = omega (arith, ints)

lt_le : (z n : ℤ) → z <ℤ n → z ≤ℤ n
lt_le z n h = omega (arith, ints)

lt_ne : (z n : ℤ) → z <ℤ n → z ≢ n
lt_ne z n h e = omega (arith, ints)

gt_ne : (z n : ℤ) → n <ℤ z → z ≢ n
gt_ne z n h e = omega (arith, ints)

abbrev Never : (ℤ → Type 0) → BinOp → ℤ → Type 0
Never P other m = (z : ℤ) → P z → ¬ Holds other z m

fails_then : (op : BinOp) (z n : ℤ) → is_comparison op ≡ true → ¬ Holds op z n → fails op z n ≡ true
fails_then Eq z n c h = by_false (not (int_eq z n)) (λ e. h (eq_if z n (not_false (int_eq z n) e)))
fails_then Ne z n c h = by_false (int_eq z n) (λ e. h (eq_not z n e))
fails_then Lt z n c h = by_false (int_le n z) (λ e. h (le_not n z e))
fails_then Le z n c h = by_false (int_lt n z) (λ e. h (lt_not n z e))
fails_then Gt z n c h = by_false (int_le z n) (λ e. h (le_not z n e))
fails_then Ge z n c h = by_false (int_lt z n) (λ e. h (lt_not z n e))
fails_then op z n c h = absurd (cc)

below_then : (n : ℤ) (other : BinOp) (m : ℤ) → is_comparison other ≡ true → Never (λ z. z <ℤ n) other m → never_below n other m ≡ true
below_then n Eq m c h = by_false (int_le n m) (λ e. h m (le_not n m e) refl)
below_then n Ne m c h = let w = below_both n m in absurd (h w.0 w.1.0 (lt_ne w.0 m w.1.1))
below_then n Lt m c h = let w = below_both n m in absurd (h w.0 w.1.0 w.1.1)
below_then n Le m c h = let w = below_both n m in absurd (h w.0 w.1.0 (lt_le w.0 m w.1.1))
below_then n Gt m c h = by_false (int_le n (m +ℤ pos 1)) (λ e. h (m +ℤ pos 1) (le_not n (m +ℤ pos 1) e) (next_lt m))
below_then n Ge m c h = by_false (int_le n m) (λ e. h m (le_not n m e) (same_le m))
below_then n op m c h = absurd (cc)

up_to_then : (n : ℤ) (other : BinOp) (m : ℤ) → is_comparison other ≡ true → Never (λ z. z ≤ℤ n) other m → never_up_to n other m ≡ true
up_to_then n Eq m c h = by_false (int_lt n m) (λ e. h m (lt_not n m e) refl)
up_to_then n Ne m c h = let w = below_both n m in absurd (h w.0 (lt_le w.0 n w.1.0) (lt_ne w.0 m w.1.1))
up_to_then n Lt m c h = let w = below_both n m in absurd (h w.0 (lt_le w.0 n w.1.0) w.1.1)
up_to_then n Le m c h = let w = below_both n m in absurd (h w.0 (lt_le w.0 n w.1.0) (lt_le w.0 m w.1.1))
up_to_then n Gt m c h = by_false (int_le n m) (λ e. h n (same_le n) (le_not n m e))
up_to_then n Ge m c h = by_false (int_lt n m) (λ e. h m (lt_not n m e) (same_le m))
up_to_then n op m c h = absurd (cc)

above_then : (n : ℤ) (other : BinOp) (m : ℤ) → is_comparison other ≡ true → Never (λ z. n <ℤ z) other m → never_above n other m ≡ true
above_then n Eq m c h = by_false (int_le m n) (λ e. h m (le_not m n e) refl)
above_then n Ne m c h = let w = above_both n m in absurd (h w.0 w.1.0 (gt_ne w.0 m w.1.1))
above_then n Lt m c h = by_false (int_le m (n +ℤ pos 1)) (λ e. h (n +ℤ pos 1) (next_lt n) (le_not m (n +ℤ pos 1) e))
above_then n Le m c h = by_false (int_le m n) (λ e. h m (le_not m n e) (same_le m))
above_then n Gt m c h = let w = above_both n m in absurd (h w.0 w.1.0 w.1.1)
above_then n Ge m c h = let w = above_both n m in absurd (h w.0 w.1.0 (lt_le m w.0 w.1.1))
above_then n op m c h = absurd (cc)

from_then : (n : ℤ) (other : BinOp) (m : ℤ) → is_comparison other ≡ true → Never (λ z. n ≤ℤ z) other m → never_from n other m ≡ true
from_then n Eq m c h = by_false (int_lt m n) (λ e. h m (lt_not m n e) refl)
from_then n Ne m c h = let w = above_both n m in absurd (h w.0 (lt_le n w.0 w.1.0) (gt_ne w.0 m w.1.1))
from_then n Lt m c h = by_false (int_le m n) (λ e. h n (same_le n) (le_not m n e))
from_then n Le m c h = by_false (int_lt m n) (λ e. h m (lt_not m n e) (same_le m))
from_then n Gt m c h = let w = above_both n m in absurd (h w.0 (lt_le n w.0 w.1.0) w.1.1)
from_then n Ge m c h = let w = above_both n m in absurd (h w.0 (lt_le n w.0 w.1.0) (lt_le m w.0 w.1.1))
from_then n op m c h = absurd (cc)

besides_then : (n : ℤ) (other : BinOp) (m : ℤ) → is_comparison other ≡ true → Never (λ z. z ≢ n) other m → never_besides n other m ≡ true
besides_then n Eq m c h = by_false (int_eq n m) (λ e. h m (λ same. eq_not n m e (sym same)) refl)
besides_then n Ne m c h = let w = above_both n m in absurd (h w.0 (gt_ne w.0 n w.1.0) (gt_ne w.0 m w.1.1))
besides_then n Lt m c h = let w = below_both n m in absurd (h w.0 (lt_ne w.0 n w.1.0) w.1.1)
besides_then n Le m c h = let w = below_both n m in absurd (h w.0 (lt_ne w.0 n w.1.0) (lt_le w.0 m w.1.1))
besides_then n Gt m c h = let w = above_both n m in absurd (h w.0 (gt_ne w.0 n w.1.0) w.1.1)
besides_then n Ge m c h = let w = above_both n m in absurd (h w.0 (gt_ne w.0 n w.1.0) (lt_le m w.0 w.1.1))
besides_then n op m c h = absurd (cc)

pub never_then : (op other : BinOp) (n m : ℤ) → is_comparison op ≡ true → is_comparison other ≡ true → ((z : ℤ) → Holds op z n → ¬ Holds other z m) → never_both op n other m ≡ true
never_then Eq other n m b c h = fails_then other n m c (h n refl)
never_then Ne other n m b c h = besides_then n other m c h
never_then Lt other n m b c h = below_then n other m c h
never_then Le other n m b c h = up_to_then n other m c h
never_then Gt other n m b c h = above_then n other m c h
never_then Ge other n m b c h = from_then n other m c h
never_then op other n m b c h = absurd (cc)
