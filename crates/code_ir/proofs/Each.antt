-- A fact about each element of a list, which a loop looks at in order.
use Rattle.std.proofs.Common.{◌≡◌, ℕ, ◌<◌, ◌≤◌, List, length, arith}
use Rattle.std.specs.Prelude.{Some, slice_get}
use Rattle.std.proofs.lemmas.Option.{slice_get_within}

-- it holds of each of the first n
abbrev pub HoldsBelow : {X : Type 0} → (X → Type 0) → List X → ℕ → Type 0
HoldsBelow P xs n = (p : ℕ) (x : _) → p < n → slice_get xs p ≡ Some x → P x

pub holds-all : {X : Type 0} (P : X → Type 0) (xs : List X) (n : ℕ) → HoldsBelow P xs n → length xs ≤ n → (p : ℕ) (x : X) → slice_get xs p ≡ Some x → P x
holds-all P xs n below all p x g = let inside : p < length xs = slice_get_within xs p x g in below p x (omega arith) g
