-- The token that came last.
use Rattle.std.proofs.Common.{◌≡◌, suc, ◌-◌, List, [], ◌∷◌, ◌++◌, ℤ, length, take, sym, ap, subst, ◌∙◌, arith}
use Rattle.std.specs.Prelude.{Some, slice_get}

pub newest : (xs : List ℤ) (v : ℤ) → slice_get xs (length xs - 1) ≡ Some v → xs ≡ take (length xs - 1) xs ++ v ∷ []
newest [] v at = cc
newest (x ∷ []) v at = let same : x ≡ v = cc in ap (λ y. y ∷ []) same
newest (x ∷ y ∷ xs) v at =
    let e : length (x ∷ y ∷ xs) - 1 ≡ suc (length (y ∷ xs) - 1) = omega arith in
    ap (λ ys. x ∷ ys) (newest (y ∷ xs) v (subst (λ n. slice_get (x ∷ y ∷ xs) n ≡ Some v) e at))
    ∙ ap (λ n. take n (x ∷ y ∷ xs) ++ v ∷ []) (sym e)
