-- Lists that are parts of others in their order.
use Rattle.std.proofs.Common.{◌≡◌, ◌⊎◌, inl, inr, ⊎_elim, List, [], ◌∷◌, ◌++◌, refl, subst, Contains}
use Rattle.cal_model.specs.Sound.{AreDistinct}
use Rattle.cal_check.proofs.Lists.{at-head, head-or-rest, in-none, in-rest}

-- some of the others are left out
abbrev pub IsPart : {A : Type 0} → List A → List A → Type 0
IsPart [] ys = Unit {0}
IsPart (x ∷ xs) [] = ⊥
IsPart (x ∷ xs) (y ∷ ys) = ((x ≡ y) × IsPart xs ys) ⊎ IsPart (x ∷ xs) ys

pub part-more : {A : Type 0} (xs : List A) (y : A) (ys : List A) → IsPart xs ys → IsPart xs (y ∷ ys)
part-more [] y ys p = tt
part-more (x ∷ xs) y ys p = inr p

pub part-both : {A : Type 0} (x : A) (xs ys : List A) → IsPart xs ys → IsPart (x ∷ xs) (x ∷ ys)
part-both x xs ys p = inl (refl, p)

pub part-all : {A : Type 0} (xs : List A) → IsPart xs xs
part-all [] = tt
part-all (x ∷ xs) = inl (refl, part-all xs)

pub part-front : {A : Type 0} (xs ys zs : List A) → IsPart xs ys → IsPart xs (zs ++ ys)
part-front xs ys [] p = p
part-front xs ys (z ∷ zs) p = part-more xs z (zs ++ ys) (part-front xs ys zs p)

pub part-append : {A : Type 0} (xs us ys vs : List A) → IsPart xs us → IsPart ys vs → IsPart (xs ++ ys) (us ++ vs)
part-append [] us ys vs p q = part-front ys vs us q
part-append (x ∷ xs) [] ys vs p q = absurd p
part-append (x ∷ xs) (u ∷ us) ys vs (inl p) q = inl (p.0, part-append xs us ys vs p.1 q)
part-append (x ∷ xs) (u ∷ us) ys vs (inr p) q = inr (part-append (x ∷ xs) us ys vs p q)

pub part-in : {A : Type 0} (xs ys : List A) (z : A) → IsPart xs ys → Contains xs z → Contains ys z
part-in [] ys z p c = absurd (in-none z c)
part-in (x ∷ xs) [] z p c = absurd p
part-in (x ∷ xs) (y ∷ ys) z (inl p) c =
    ⊎_elim (λ (e : x ≡ z). at-head z y ys (subst (λ w. w ≡ z) p.0 e)) (λ d. in-rest z y ys (part-in xs ys z p.1 d)) (head-or-rest z x xs c)
part-in (x ∷ xs) (y ∷ ys) z (inr p) c = in-rest z y ys (part-in (x ∷ xs) ys z p c)

pub part-distinct : {A : Type 0} (xs ys : List A) → IsPart xs ys → AreDistinct ys → AreDistinct xs
part-distinct [] ys p d = tt
part-distinct (x ∷ xs) [] p d = absurd p
part-distinct (x ∷ xs) (y ∷ ys) (inl p) d =
    (λ c. d.0 (subst (λ w. Contains ys w) p.0 (part-in xs ys x p.1 c)), part-distinct xs ys p.1 d.1)
part-distinct (x ∷ xs) (y ∷ ys) (inr p) d = part-distinct (x ∷ xs) ys p d.1
