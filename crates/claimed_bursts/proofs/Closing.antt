-- Passes whose workers were answered that no piece is left.
use Rattle.std.proofs.Common.{◌≡◌, ℕ, ◌≤◌, List, [], ◌∷◌, ◌++◌, length, take, drop, All, Any, true, refl, sym, subst, arith}
use Rattle.std.proofs.lemmas.List.{take_at}
use Rattle.claim_board.specs.Seen.{BoardSeen, PassSeen}
use Rattle.claimed_bursts.specs.Crews.{HasEnded}

some_ended : {P : Type 0} (board : BoardSeen P) (passes : List (PassSeen P)) → 1 ≤ length passes → All (HasEnded board) passes
    → Any (λ (pass : PassSeen P). pass.ended ≡ true) passes
some_ended board [] some all = absurd (omega arith)
some_ended board (pass ∷ passes) some all =
    let first : HasEnded board pass = all 0 pass (omega arith) in (0, pass, omega arith, refl, first.ended)

-- the same of the vector that was lent to the workers as a slice
pub lent_ended : {P : Type 0} (board : BoardSeen P) (passes new : List (PassSeen P)) (n : ℕ) → length new ≡ n → 1 ≤ n → All (HasEnded board) new
    → Any (λ (pass : PassSeen P). pass.ended ≡ true) (take n (new ++ drop (length new) passes))
lent_ended {P} board passes new n len some all =
    subst (λ (l : List (PassSeen P)). Any (λ (pass : PassSeen P). pass.ended ≡ true) l) (sym (take_at new (drop (length new) passes) n len))
    (some_ended board new (omega (arith, len, some)) all)
