-- A number that needs more than 128 bits.
use Rattle.std.proofs.Common.{◌≡◌, ℕ, ◌<◌, ◌≤◌, ◌^◌, true, false, Some, None, refl, arith}
use Rattle.std.proofs.lemmas.Bool.Decides.{nat_tests}
use Rattle.std.specs.Prelude.{if◌then◌else◌, nat_lt}

pub too_big : (n : ℕ) → 2 ^ 128 ≤ n → (if nat_lt n (2 ^ 128) then Some n else None) ≡ None
too_big n h = let test : nat_lt n (2 ^ 128) ≡ false = grind (arith, nat_tests) in rw test refl

pub fits_in : (n : ℕ) → n < 2 ^ 128 → (if nat_lt n (2 ^ 128) then Some n else None) ≡ Some n
fits_in n h = let test : nat_lt n (2 ^ 128) ≡ true = grind (arith, nat_tests) in rw test refl
