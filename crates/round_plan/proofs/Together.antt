-- What all picked instances may do together.
use Rattle.std.proofs.Common.{◌≡◌, ℕ, zero, suc, ◌+◌, ◌*◌, ◌/◌, ◌%◌, ◌≤◌, [], ◌∷◌, map, min, sum, nat_lt, if◌then◌else◌, ap, ◌∙◌, arith}
use Rattle.std.proofs.lemmas.Bool.Decides.{nat_tests}
use Rattle.std.proofs.lemmas.Grind.{fold-append}
use Rattle.std.proofs.lemmas.List.FromFn.{map-range_with_len_more}
use Rattle.std.specs.List.{range_with_len}
use Rattle.rvc_base.specs.Shares.{allowed, allowed_together}

add_up : (so_far quotient rest m next : ℕ) → so_far ≤ m * quotient + min m rest → next ≤ quotient + (if nat_lt m rest then 1 else 0) → so_far + next ≤ suc m * quotient + min (suc m) rest
add_up so_far quotient rest m next before here = grind (arith, nat_tests)

one_more : (f : ℕ → ℕ) (m : ℕ) → sum (map f (range_with_len 0 (suc m))) ≡ sum (map f (range_with_len 0 m)) + f m
one_more f m =
    ap (λ n. sum (map f (range_with_len 0 n))) (let e : suc m ≡ m + 1 = omega arith in e)
    ∙ ap sum (map-range_with_len_more f 0 m m (omega arith))
    ∙ fold-append ◌+◌ 0 (map f (range_with_len 0 m)) (f m ∷ [])

-- the first m of them
first_of_them : (left picked burst m : ℕ) → sum (map (allowed left picked burst) (range_with_len 0 m)) ≤ m * (left / picked) + min m (left % picked)
first_of_them left picked burst zero = omega arith
first_of_them left picked burst (suc m) =
    rw (one_more (allowed left picked burst) m) (add_up _ (left / picked) (left % picked) m (allowed left picked burst m) (first_of_them left picked burst m) (omega arith))

pub together : (left picked burst : ℕ) → 1 ≤ picked → allowed_together left picked burst ≤ left
together left picked burst some = let all = first_of_them left picked burst picked in omega arith
