-- A token that is stored stays when it is stored again.
use Rattle.std.proofs.Common.{◌≡◌, ℕ, suc, ◌-◌, ◌*◌, ◌%◌, ◌^◌, ◌<◌, ◌≤◌, Bool, true, false, List, [], ◌∷◌, ◌++◌, ℤ, pos, negsuc, ◌+ℤ◌, ◌-ℤ◌, map, refl, sym, ap, subst, ◌∙◌, arith, pow_pos}
use Rattle.std.specs.Prelude.{nat_lt, unsigned_abs, if◌then◌else◌, ◌==◌}
use Rattle.std.proofs.Math.Nat.{le-mul_of_pos_right, mod-eq_of_lt, mod-lt}
use Rattle.std.proofs.lemmas.Int.{ints, int_rem_euclid_is}
use Rattle.rvc_base.specs.declared.scalar.Scalar.{Scalar}
use Rattle.rvc_base.specs.declared.scalar.Scalar.TheVariants.{Bool as Truth, Int, Uint}
use Rattle.rvc_base.specs.Storing.{conv, in_twos_complement, low_part}
use Rattle.net_model.specs.PortFile.{all_encoded, encoded}
use Rattle.net_state.proofs.Coming.{by_bool, if_true, if_false}
use Rattle.round_runner.specs.Sending.{stored_bytes}

-- a low part is below the power
low_below : (n : ℕ) (v : ℤ) → low_part n v < 2 ^ n
low_below n (pos a) = mod-lt a (pow_pos n)
low_below n (negsuc a) =
    let some : 0 < 2 ^ n = pow_pos n in
    let enough : suc a ≤ suc a * 2 ^ n = le-mul_of_pos_right (suc a) some in
    let sum : negsuc a +ℤ pos (suc a * 2 ^ n) ≡ pos (suc a * 2 ^ n - suc a) = turned a (suc a * 2 ^ n) enough in
    let is : low_part n (negsuc a) ≡ (suc a * 2 ^ n - suc a) % 2 ^ n = ap unsigned_abs (int_rem_euclid_is (negsuc a) (pos (2 ^ n)) (2 ^ n) (suc a) (suc a * 2 ^ n - suc a) some refl sum) in
    subst (λ m. m < 2 ^ n) (sym is) (mod-lt (suc a * 2 ^ n - suc a) some)
  where
    turned : (b whole : ℕ) → suc b ≤ whole → negsuc b +ℤ pos whole ≡ pos (whole - suc b)
    turned b whole less = omega (arith, ints)

-- .. and is its own
low_again : (n r : ℕ) → r < 2 ^ n → low_part n (pos r) ≡ r
low_again n r less = mod-eq_of_lt less

low_turned : (n r : ℕ) → r < 2 ^ n → low_part n (pos r -ℤ pos (2 ^ n)) ≡ r
low_turned n r less =
    let sum : (pos r -ℤ pos (2 ^ n)) +ℤ pos (1 * 2 ^ n) ≡ pos r = back r (2 ^ n) in
    ap unsigned_abs (int_rem_euclid_is (pos r -ℤ pos (2 ^ n)) (pos (2 ^ n)) (2 ^ n) 1 r (pow_pos n) refl sum) ∙ mod-eq_of_lt less
  where
    back : (a b : ℕ) → (pos a -ℤ pos b) +ℤ pos (1 * b) ≡ pos a
    back a b = omega (arith, ints)

twos_again : (n r : ℕ) → r < 2 ^ n → in_twos_complement n (low_part n (in_twos_complement n r)) ≡ in_twos_complement n r
twos_again n r less = ap (in_twos_complement n) (by_bool (nat_lt r (2 ^ (n - 1)))
    (λ low. ap (low_part n) (if_true (nat_lt r (2 ^ (n - 1))) (pos r) (pos r -ℤ pos (2 ^ n)) low) ∙ low_again n r less)
    (λ high. ap (low_part n) (if_false (nat_lt r (2 ^ (n - 1))) (pos r) (pos r -ℤ pos (2 ^ n)) high) ∙ low_turned n r less))

pub conv_again : (kind : Scalar) (v : ℤ) → conv kind (conv kind v) ≡ conv kind v
conv_again Truth v = by_test (unsigned_abs v == 0)
  where
    by_test : (b : Bool) → conv Truth (if b then pos 0 else pos 1) ≡ (if b then pos 0 else pos 1)
    by_test true = refl
    by_test false = refl
conv_again (Int n) v = twos_again n (low_part n v) (low_below n v)
conv_again (Uint n) v = ap pos (low_again n (low_part n v) (low_below n v))

-- the bytes of tokens that are stored already
pub stored_is : (kind : Scalar) (ts : List ℤ) → stored_bytes kind (map (conv kind) ts) ≡ all_encoded kind (map (conv kind) ts)
stored_is kind [] = refl
stored_is kind (t ∷ ts) =
    ap (λ w. encoded kind w ++ stored_bytes kind (map (conv kind) ts)) (conv_again kind t)
    ∙ ap (λ bytes. encoded kind (conv kind t) ++ bytes) (stored_is kind ts)
