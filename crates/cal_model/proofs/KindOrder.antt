-- Names that are declared one after the other, the later ones in front.
use Rattle.std.proofs.Common.{◌≡◌, List, [], ◌∷◌, ◌++◌, map, refl, ap}
use Rattle.cal_model.specs.Actor.{Local}
use Rattle.cal_model.specs.Kinding.{Known, Names, with_known}
use Rattle.cal_model.specs.Sound.{known_local, with_locals}

-- names in front of others, each in front of those before it
abbrev pub onto : List Known → List Known → List Known
onto [] ls = ls
onto (n ∷ ns) ls = onto ns (n ∷ ls)

-- what stands behind stays behind
pub onto-behind : (ns ls zs : List Known) → onto ns ls ++ zs ≡ onto ns (ls ++ zs)
onto-behind [] ls zs = refl
onto-behind (n ∷ ns) ls zs = onto-behind ns (n ∷ ls) zs

-- one element more at the end of a list, before what stands behind
pub one-behind : {A : Type 0} (x : A) (xs ys : List A) → (xs ++ x ∷ []) ++ ys ≡ xs ++ (x ∷ ys)
one-behind x [] ys = refl
one-behind x (z ∷ zs) ys = ap (λ rest. z ∷ rest) (one-behind x zs ys)

pub with-locals-is : (xs : List Local) (names : Names) → with_locals xs names ≡ record names { locals = onto (map known_local xs) names.locals }
with-locals-is [] names = refl
with-locals-is (x ∷ xs) names = with-locals-is xs (with_known (known_local x) names)
