-- How many parts there are in networks: the measure of the walk.
use Rattle.std.proofs.Common.{◌≡◌, ℕ, suc, ◌+◌, ◌≤◌, List, [], ◌∷◌, ◌++◌, length, map, ap, arith}
use Rattle.std.proofs.lemmas.List.{length-append}
use Rattle.fnl_tree.specs.Tree.{Net}

abbrev pub weights : List Net → ℕ
weights [] = 0
weights (n ∷ ns) = suc (length n.parts) + weights ns

pub lighter : (xs ys zs : List Net) → xs ≡ ys ++ zs → weights zs ≤ weights xs
lighter xs ys zs h = let e = ap weights h in let l = go ys in omega (arith, e, l)
  where
    go : (ys : List Net) → weights zs ≤ weights (ys ++ zs)
    go [] = omega arith
    go (y ∷ ys) = let r = go ys in omega (arith, r)

pub fewer : {A : Type 0} → (xs ys zs : List A) → xs ≡ ys ++ zs → length zs ≤ length xs
fewer xs ys zs h = let e = ap length h in let l = length-append ys zs in omega (arith, e, l)

pub as_many : {A B : Type 0} → (f : A → B) (xs : List A) → length (map f xs) ≡ length xs
as_many f [] = Rattle.std.proofs.Common.refl
as_many f (x ∷ xs) = ap suc (as_many f xs)
