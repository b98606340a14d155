-- Classes of which no network was found.
use Rattle.std.proofs.Common.{◌≡◌, ℕ, Bool, true, false, ◌||◌, List, [], ◌∷◌, ◌++◌, refl, ap}
use Rattle.std.proofs.lemmas.Slice.Eq.{bytes_eq-Decides}
use Rattle.std.specs.Prelude.{if◌then◌else◌}
use Rattle.std.specs.Str.{bytes_eq}
use Rattle.cal_scope.specs.Names.{is_among, with_name}

among_before : (x : List ℕ) (xs ys : List (List ℕ)) → is_among x xs ≡ true → is_among x (xs ++ ys) ≡ true
among_before x [] ys h = cc
among_before x (y ∷ xs) ys h = go (bytes_eq x y) h (among_before x xs ys)
  where
    go : (b : Bool) → (b || is_among x xs) ≡ true → (is_among x xs ≡ true → is_among x (xs ++ ys) ≡ true) → (b || is_among x (xs ++ ys)) ≡ true
    go true k rest = refl
    go false k rest = rest k

among_last : (x : List ℕ) (xs : List (List ℕ)) → is_among x (xs ++ x ∷ []) ≡ true
among_last x [] = ap (λ b. b || false) ((bytes_eq-Decides x x).1 refl)
among_last x (y ∷ xs) = go (bytes_eq x y) (among_last x xs)
  where
    go : (b : Bool) → is_among x (xs ++ x ∷ []) ≡ true → (b || is_among x (xs ++ x ∷ [])) ≡ true
    go true k = refl
    go false k = k

among_none : (x y : List ℕ) (xs : List (List ℕ)) → is_among x (xs ++ y ∷ []) ≡ true → is_among x xs ≡ false → x ≡ y
among_none x y [] h k = only (bytes_eq x y) refl h
  where
    only : (b : Bool) → bytes_eq x y ≡ b → (b || false) ≡ true → x ≡ y
    only true e l = (bytes_eq-Decides x y).0 e
    only false e l = cc
among_none x y (z ∷ xs) h k = go (bytes_eq x z) h k (among_none x y xs)
  where
    go : (b : Bool) → (b || is_among x (xs ++ y ∷ [])) ≡ true → (b || is_among x xs) ≡ false
        → (is_among x (xs ++ y ∷ []) ≡ true → is_among x xs ≡ false → x ≡ y) → x ≡ y
    go true l m rest = cc
    go false l m rest = rest l m

-- ---- with one more

pub among_with : (x : List ℕ) (xs : List (List ℕ)) → is_among x (with_name x xs) ≡ true
among_with x xs = go (is_among x xs) refl
  where
    go : (b : Bool) → is_among x xs ≡ b → is_among x (if b then xs else xs ++ x ∷ []) ≡ true
    go true e = e
    go false e = among_last x xs

pub among_more : (x y : List ℕ) (xs : List (List ℕ)) → is_among x xs ≡ true → is_among x (with_name y xs) ≡ true
among_more x y xs h = go (is_among y xs)
  where
    go : (b : Bool) → is_among x (if b then xs else xs ++ y ∷ []) ≡ true
    go true = h
    go false = among_before x xs (y ∷ []) h

pub among_only : (x y : List ℕ) (xs : List (List ℕ)) → is_among x (with_name y xs) ≡ true → is_among x xs ≡ false → x ≡ y
among_only x y xs h k = go (is_among y xs) h
  where
    go : (b : Bool) → is_among x (if b then xs else xs ++ y ∷ []) ≡ true → x ≡ y
    go true l = both (is_among x xs) l k
      where
        both : (b : Bool) → b ≡ true → b ≡ false → x ≡ y
        both true m n = cc
        both false m n = cc
    go false l = among_none x y xs l k
