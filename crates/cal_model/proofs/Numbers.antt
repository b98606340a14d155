-- Operations on numbers of the language give such numbers.
use Rattle.std.proofs.Common.{◌≡◌, ℕ, zero, suc, ◌+◌, ◌-◌, ◌%◌, ◌/◌, ◌^◌, ◌<◌, ◌≤◌, ℤ, pos, negsuc, true, of_z, arith}
use Rattle.std.specs.Prelude.{unsigned_abs, int_rem, neg_ℤ}
use Rattle.std.specs.Int.{int_bit_and, int_bit_or, int_bit_xor, int_bit_not, int_shr}
use Rattle.std.proofs.lemmas.Bool.{ltb-true, lt-ltb}
use Rattle.std.proofs.lemmas.Int.{ints}
use Rattle.std.proofs.lemmas.Nat.{shr_le}
use Rattle.std.proofs.Math.Nat.{mod-le}
use Rattle.std.proofs.Math.Facts.{sfits_to_z, Fits-and, Fits-or, Fits-xor, Fits-of_z, Fits-of_lt}
use Rattle.rvc_base.specs.Width.{IsNum, is_num, num_bound, num_width}

pub is-num : (z : ℤ) → is_num z ≡ true → IsNum z
is-num (pos n) h = let e : n < num_bound = ltb-true n (num_bound) h in omega (arith, ints)
is-num (negsuc n) h = let e : n < num_bound = ltb-true n (num_bound) h in omega (arith, ints)

pub num-is : (z : ℤ) → IsNum z → is_num z ≡ true
num-is (pos n) h = lt-ltb n (num_bound) (omega (arith, ints))
num-is (negsuc n) h = lt-ltb n (num_bound) (omega (arith, ints))

negated : (r a : ℕ) → r ≤ suc a → IsNum (negsuc a) → IsNum (neg_ℤ (pos r))
negated zero a h k = omega (arith, ints)
negated (suc r) a h k = omega (arith, ints)

pub rest-is-num : (a b : ℤ) → IsNum a → IsNum (int_rem a b)
rest-is-num (pos a) b h = let e : a % unsigned_abs b ≤ a = mod-le a (unsigned_abs b) in omega (arith, ints)
rest-is-num (negsuc a) b h = negated (suc a % unsigned_abs b) a (mod-le (suc a) (unsigned_abs b)) h

pub shifted-is-num : (a : ℤ) (n : ℕ) → IsNum a → IsNum (int_shr a n)
shifted-is-num (pos a) n h = let e : a / 2 ^ n ≤ a = shr_le a n in omega (arith, ints)
shifted-is-num (negsuc a) n h = let e : a / 2 ^ n ≤ a = shr_le a n in omega (arith, ints)

pub and-is-num : (a b : ℤ) → IsNum a → IsNum (int_bit_and num_width a b)
and-is-num a b h = sfits_to_z (Fits-and (of_z num_width b) (Fits-of_z h))

pub or-is-num : (a b : ℤ) → IsNum a → IsNum b → IsNum (int_bit_or num_width a b)
or-is-num a b h k = sfits_to_z (Fits-or (Fits-of_z h) (Fits-of_z k))

pub xor-is-num : (a b : ℤ) → IsNum a → IsNum b → IsNum (int_bit_xor num_width a b)
xor-is-num a b h k = sfits_to_z (Fits-xor (Fits-of_z h) (Fits-of_z k))

pub not-is-num : (a : ℤ) → IsNum a → IsNum (int_bit_not num_width a)
not-is-num a h = sfits_to_z (Fits-of_lt (let e : num_bound + num_bound - 1 - of_z num_width a < num_bound + num_bound = omega arith in e))
