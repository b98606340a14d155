-- The number that digits stand for.
use Rattle.std.proofs.Common.{ℕ, suc, zero, ◌+◌, ◌*◌, ◌≤◌, List, [], ◌∷◌, take, arith}
use Rattle.std.specs.Prelude.{fold}
use Rattle.std.proofs.Math.Nat.{mul-le-mul_left}
use Rattle.cal_lexer.specs.Lexis.{value_of, digit_value}

-- more digits make no smaller number
grows : (base acc : ℕ) (digits : List ℕ) → 1 ≤ base → acc ≤ fold (λ value b. value * base + digit_value b) acc digits
grows base acc [] h = omega arith
grows base acc (d ∷ digits) h = let k = grows base (acc * base + digit_value d) digits h in let m : acc ≤ acc * base = omega (arith, mul-le-mul_left acc h) in omega arith

front_grows : (base acc : ℕ) (digits : List ℕ) (i : ℕ) → 1 ≤ base → fold (λ value b. value * base + digit_value b) acc (take i digits) ≤ fold (λ value b. value * base + digit_value b) acc digits
front_grows base acc digits zero h = grows base acc digits h
front_grows base acc [] (suc i) h = omega arith
front_grows base acc (d ∷ digits) (suc i) h = front_grows base (acc * base + digit_value d) digits i h

pub value_grows : (base : ℕ) (digits : List ℕ) (i : ℕ) → 1 ≤ base → value_of base (take i digits) ≤ value_of base digits
value_grows base digits i h = front_grows base 0 digits i h
