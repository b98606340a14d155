-- The last of the expressions of two lists that uses a name.
use Rattle.std.proofs.Common.{◌≡◌, ℕ, List, [], ◌∷◌, ◌++◌, refl, sym, ◌∙◌}
use Rattle.std.specs.Prelude.{if◌then◌else◌}
use Rattle.cal_ast.specs.Places.{begins}
use Rattle.cal_ast.specs.Tree.{Tree}
use Rattle.cal_check.specs.Constants.{last_using, uses_at}

pub last_of_both : (p : ℕ) (xs ys : List Tree) (at : ℕ) → last_using p (xs ++ ys) at ≡ last_using p ys (last_using p xs at)
last_of_both p [] ys at = refl
last_of_both p (x ∷ xs) ys at = last_of_both p xs ys (if uses_at p x then begins x else at)

pub both_in_turn : (p r : ℕ) (xs ys : List Tree) (at : ℕ) → r ≡ last_using p ys (last_using p xs at) → r ≡ last_using p (xs ++ ys) at
both_in_turn p r xs ys at h = h ∙ sym (last_of_both p xs ys at)
