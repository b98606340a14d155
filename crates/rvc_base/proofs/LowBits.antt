-- The low bits of a number's representation are its rest by a power of 2.
use Rattle.std.proofs.Common.{◌≡◌, ℕ, suc, ◌+◌, ◌-◌, ◌*◌, ◌%◌, ◌^◌, ◌<◌, ◌≤◌, ℤ, pos, negsuc, ◌+ℤ◌, FitsSigned, of_z, bit_and, refl, sym, ap, ◌∙◌, arith, pow-add, pow_pos, pow_mono}
use Rattle.std.proofs.lemmas.Int.{ints, int_rem_euclid_is}
use Rattle.std.proofs.lemmas.Nat.{and_mask}
use Rattle.std.specs.Prelude.{unsigned_abs}
use Rattle.rvc_base.specs.Storing.{low_part}
use Rattle.rvc_base.specs.Width.{num_width, max_size}

-- how often 2 to the power of n goes into what is added to a number below 0
whole_turns : (n : ℕ) → n ≤ max_size → 2 ^ (128 - n) * 2 ^ n ≡ 2 ^ 128
whole_turns n small =
    sym (pow-add 2 (128 - n) n) ∙ ap (λ k. 2 ^ k) (let e : 128 - n + n ≡ 128 = omega arith in e)

-- a number below 0, a whole turn on
turned : (a whole : ℕ) → a < whole → negsuc a +ℤ pos whole ≡ pos (whole - suc a)
turned a whole less = omega (arith, ints)

pub low_part-of_z : (n : ℕ) (v : ℤ) → n ≤ max_size → FitsSigned num_width v → low_part n v ≡ of_z num_width v % 2 ^ n
low_part-of_z n (pos a) small fits = refl
low_part-of_z n (negsuc a) small fits =
    let turns : 2 ^ (128 - n) * 2 ^ n ≡ 2 ^ 128 = whole_turns n small in
    let within : a < 2 ^ 128 = omega (arith, ints) in
    let sum : negsuc a +ℤ pos (2 ^ (128 - n) * 2 ^ n) ≡ pos (2 ^ 128 - suc a) =
    ap (λ k. negsuc a +ℤ pos k) turns ∙ turned a (2 ^ 128) within in
    ap unsigned_abs (int_rem_euclid_is (negsuc a) (pos (2 ^ n)) (2 ^ n) (2 ^ (128 - n)) (2 ^ 128 - suc a) (pow_pos n) refl sum)

-- the mask of n bits takes the rest
pub masked : (n : ℕ) (v : ℤ) (bits : ℕ) → n ≤ max_size → FitsSigned num_width v → bits ≡ of_z num_width v → bit_and bits (1 * 2 ^ n % 2 ^ 128 - 1) ≡ low_part n v
masked n v bits small fits e =
    let below : 2 ^ n ≤ 2 ^ max_size = pow_mono small in
    let whole : 1 * 2 ^ n % 2 ^ 128 ≡ 2 ^ n = omega arith in
    rw (whole, e, low_part-of_z n v small fits) (and_mask (of_z num_width v) n)
