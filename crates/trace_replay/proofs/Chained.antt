-- Places of lists.
use Rattle.std.proofs.Common.{◌≡◌, ℕ, zero, suc, ◌<◌, List, [], ◌∷◌, ◌++◌, length, refl, arith}
use Rattle.std.specs.Prelude.{Some, slice_get}
use Rattle.std.proofs.lemmas.List.{take_at}

-- a list as long has something at a place
pub record There {A : Type 0} (xs : List A) (i : ℕ) : Type 0 where
  pub item : A
  pub at : slice_get xs i ≡ Some item

pub there : {A B : Type 0} (xs : List A) (ys : List B) (i : ℕ) (x : A) → length ys ≡ length xs → slice_get xs i ≡ Some x → There ys i
there [] ys i x same at = cc
there (x ∷ xs) [] i y same at = cc
there (x ∷ xs) (y ∷ ys) zero z same at = record { item = y; at = refl }
there (x ∷ xs) (y ∷ ys) (suc i) z same at =
    let rest : length ys ≡ length xs = cc in
    let more : There ys i = there xs ys i z rest at in
    record { item = more.item; at = more.at }

pub low_there : {A : Type 0} (xs : List A) (i : ℕ) → i < length xs → There xs i
low_there [] i low = absurd (omega (arith, low))
low_there (x ∷ xs) zero low = record { item = x; at = refl }
low_there (x ∷ xs) (suc i) low = let more : There xs i = low_there xs i (omega (arith, low)) in record { item = more.item; at = more.at }

pub is_low : {A : Type 0} (xs : List A) (i : ℕ) (x : A) → slice_get xs i ≡ Some x → i < length xs
is_low [] i x at = cc
is_low (y ∷ xs) zero x at = omega arith
is_low (y ∷ xs) (suc i) x at = let low : i < length xs = is_low xs i x at in omega (arith, low)

pub at_or : {A : Type 0} (xs : List A) (k : ℕ) (other : A) → k < length xs → slice_get xs k ≡ Some (Rattle.std.specs.Prelude.slice_index_or xs k other)
at_or [] k other low = absurd (omega (arith, low))
at_or (x ∷ xs) zero other low = refl
at_or (x ∷ xs) (suc k) other low = at_or xs k other (omega (arith, low))

-- a vector that was lent as a slice
pub written_back : {A : Type 0} (items new : List A) (n : ℕ) → length new ≡ n → Rattle.std.specs.Prelude.take n (new ++ Rattle.std.specs.Prelude.drop (length new) items) ≡ new
written_back items new n len = take_at new (Rattle.std.specs.Prelude.drop (length new) items) n len
