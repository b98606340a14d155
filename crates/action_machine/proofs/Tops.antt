-- The elements below an index, with the top first.
use Rattle.std.proofs.Common.{◌≡◌, ◌≢◌, ℕ, zero, suc, ◌+◌, ◌<◌, ◌≤◌, refl, sym, ap, List, ◌∷◌, length, get_or, set, arith, add-one}
use Rattle.std.proofs.lemmas.List.{get_or-set_same, get_or-set_other}
use Rattle.action_machine.specs.Stacks.{top_first}

-- a write at the index or above changes nothing below it
top-set : {X : Type 0} (d : X) (n i : ℕ) (xs : List X) (v : X) → n ≤ i → top_first d n (set xs i v) ≡ top_first d n xs
top-set d zero i xs v h = refl
top-set d (suc n) i xs v h =
    let other : n ≢ i = omega arith in
    rw (get_or-set_other xs i n v d other) (ap (λ s. get_or xs n d ∷ s) (top-set d n i xs v (omega arith)))

pub top-push : {X : Type 0} (d : X) (n : ℕ) (xs : List X) (v : X) → n < length xs → top_first d (n + 1) (set xs n v) ≡ v ∷ top_first d n xs
top-push d n xs v h = rw (add-one, get_or-set_same xs n v d h) (ap (λ s. v ∷ s) (top-set d n n xs v (omega arith)))

pub top-pop : {X : Type 0} (d : X) (n m : ℕ) (xs : List X) → m + 1 ≡ n → top_first d n xs ≡ get_or xs m d ∷ top_first d m xs
top-pop d n m xs e = rw (sym e, add-one) refl

pub top-length : {X : Type 0} (d : X) (n : ℕ) (xs : List X) → length (top_first d n xs) ≡ n
top-length d zero xs = refl
top-length d (suc n) xs = ap suc (top-length d n xs)
