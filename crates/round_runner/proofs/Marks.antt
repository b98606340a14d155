-- Marks of the instances that are picked, by place.
use Rattle.std.proofs.Common.{◌≡◌, ℕ, zero, suc, ◌≤◌, Bool, true, false, List, [], ◌∷◌, length, take, refl, ap, arith}
use Rattle.std.specs.Prelude.{Some, slice_get}
use Rattle.net_model.specs.Paced.{count_picked, none_of}

pub take_all : {A : Type 0} (xs : List A) (k : ℕ) → length xs ≤ k → take k xs ≡ xs
take_all [] zero few = refl
take_all [] (suc k) few = refl
take_all (x ∷ xs) zero few = absurd (omega (arith, few))
take_all (x ∷ xs) (suc k) few = ap (λ ys. x ∷ ys) (take_all xs k (omega (arith, few)))

-- none of the first ones is marked, nor the next
pub none_more : (marks : List Bool) (k : ℕ) → none_of (take k marks) ≡ true → slice_get marks k ≡ Some false → none_of (take (suc k) marks) ≡ true
none_more [] k none here = cc
none_more (true ∷ marks) zero none here = cc
none_more (false ∷ marks) zero none here = refl
none_more (true ∷ marks) (suc k) none here = cc
none_more (false ∷ marks) (suc k) none here = none_more marks k none here

pub some_marked : (marks : List Bool) (k : ℕ) → slice_get marks k ≡ Some true → none_of marks ≡ false
some_marked [] k here = cc
some_marked (true ∷ marks) k here = refl
some_marked (false ∷ marks) zero here = cc
some_marked (false ∷ marks) (suc k) here = some_marked marks k here

pub few_marked : (marks : List Bool) → count_picked marks ≤ length marks
few_marked [] = omega arith
few_marked (true ∷ marks) = let rest : count_picked marks ≤ length marks = few_marked marks in omega (arith, rest)
few_marked (false ∷ marks) = let rest : count_picked marks ≤ length marks = few_marked marks in omega (arith, rest)
