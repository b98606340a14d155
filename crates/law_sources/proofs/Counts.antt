-- How often a text stands in a list of texts.
use Rattle.std.proofs.Common.{◌≡◌, ℕ, zero, suc, ◌+◌, ◌<◌, ◌≤◌, Bool, true, false, List, [], ◌∷◌, ◌++◌, length, refl, sym, ap, subst, arith}
use Rattle.std.proofs.lemmas.Slice.Eq.{bytes_eq-Decides}
use Rattle.std.specs.Prelude.{Contains}
use Rattle.std.specs.Str.{bytes_eq}
use Rattle.cal_model.specs.Sound.{AreDistinct}

abbrev pub one : Bool → ℕ
one true = 1
one false = 0

abbrev pub count : List ℕ → List (List ℕ) → ℕ
count x [] = 0
count x (y ∷ ys) = one (bytes_eq x y) + count x ys

-- no text stands twice
abbrev pub AreSingle : List (List ℕ) → Type 0
AreSingle xs = (x : List ℕ) → count x xs ≤ 1

pub count-append : (x : List ℕ) (xs ys : List (List ℕ)) → count x (xs ++ ys) ≡ count x xs + count x ys
count-append x [] ys = omega arith
count-append x (y ∷ xs) ys = let h = count-append x xs ys in omega arith

pub at_most_one : (b : Bool) → one b ≤ 1
at_most_one true = omega arith
at_most_one false = omega arith

-- a text is itself
pub itself : (x : List ℕ) → one (bytes_eq x x) ≡ 1
itself x = ap one ((bytes_eq-Decides x x).1 refl)

-- what is counted is the same text
pub counted_same : (x y : List ℕ) → 1 ≤ one (bytes_eq x y) → x ≡ y
counted_same x y h = go (bytes_eq x y) (bytes_eq-Decides x y).0 h
  where
    go : (b : Bool) → (b ≡ true → x ≡ y) → 1 ≤ one b → x ≡ y
    go true same h = same refl
    go false same h = absurd (omega arith)

contained : (x : List ℕ) (xs : List (List ℕ)) → Contains xs x → 1 ≤ count x xs
contained x [] (k, inside, e) = absurd (omega arith)
contained x (y ∷ ys) (zero, inside, e) = let h : one (bytes_eq x y) ≡ 1 = subst (λ z. one (bytes_eq x z) ≡ 1) (sym e) (itself x) in omega arith
contained x (y ∷ ys) (suc k, inside, e) =
    let below : k < length ys = omega arith in
    let h = contained x ys (k, below, e) in
    omega arith

pub distinct : (xs : List (List ℕ)) → AreSingle xs → AreDistinct xs
distinct [] h = tt
distinct (x ∷ xs) h =
    ((λ c. let i = contained x xs c in let j = itself x in let k = h x in absurd (omega arith)), distinct xs (λ y. let k = h y in omega arith))
