-- A shift to the left by fewer than the greatest count.
use Rattle.std.proofs.Common.{◌≡◌, ℕ, ◌*◌, ◌%◌, ◌^◌, ◌<◌, ap, ◌∙◌, subst, ℤ, pos, negsuc, ◌*ℤ◌, true, false, ltb, leb, arith, to_z, of_z, SFits}
use Rattle.std.specs.Prelude.{int_lt}
use Rattle.std.proofs.lemmas.Int.{to_z-of_z, to_z_pos}
use Rattle.std.proofs.lemmas.Nat.{one_shl, pow_below}
use Rattle.std.proofs.lemmas.Bool.Decides.{nat_tests}
use Rattle.rvc_base.specs.Arithmetic.{Computed, whole, mul, shl}
use Rattle.rvc_base.specs.Width.{num_width, max_shift}

below-test : (n : ℕ) → ltb n max_shift ≡ true → n < max_shift
below-test n e = grind (arith, nat_tests)

within-test : (n : ℕ) → n < max_shift → leb n max_shift ≡ true
within-test n h = grind (arith, nat_tests)

pub shifted : (a b : ℤ) (r : Computed) (k : ℤ) → SFits num_width a → SFits num_width b → r ≡ mul (to_z num_width (of_z num_width a)) (to_z num_width (1 * 2 ^ of_z num_width b % 2 ^ 128)) → int_lt (to_z num_width (of_z num_width b)) (pos 0) ≡ false → int_lt (to_z num_width (of_z num_width b)) (to_z num_width (of_z num_width k)) ≡ true → k ≡ pos max_shift → r ≡ shl a b
shifted a (pos n) r k fa fb e nonneg less is =
    let b_is : to_z num_width (of_z num_width (pos n)) ≡ pos n = to_z-of_z num_width (pos n) fb in
    let f : int_lt (pos n) (pos max_shift) ≡ true = subst (λ x. int_lt x (pos max_shift) ≡ true) b_is (subst (λ y. int_lt (to_z num_width (of_z num_width (pos n))) (to_z num_width (of_z num_width y)) ≡ true) is less) in
    let small : n < max_shift = below-test n f in
    let power : 1 * 2 ^ n % 2 ^ 128 ≡ 2 ^ n = one_shl n 128 (omega arith) in
    let factor : to_z num_width (1 * 2 ^ n % 2 ^ 128) ≡ pos (2 ^ n) = ap (to_z num_width) power ∙ to_z_pos num_width (2 ^ n) (pow_below n max_shift small) in
    let value : r ≡ whole (a *ℤ pos (2 ^ n)) = e ∙ ap (λ x. mul x (to_z num_width (1 * 2 ^ n % 2 ^ 128))) (to_z-of_z num_width a fa) ∙ ap (mul a) factor in
    rw (within-test n small) value
shifted a (negsuc n) r k fa fb e nonneg less is =
    let b_is : to_z num_width (of_z num_width (negsuc n)) ≡ negsuc n = to_z-of_z num_width (negsuc n) fb in
    let f : int_lt (negsuc n) (pos 0) ≡ false = subst (λ x. int_lt x (pos 0) ≡ false) b_is nonneg in
    cc
