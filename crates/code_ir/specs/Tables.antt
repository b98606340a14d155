-- Tables that hold a value for each place.
-- Not trusted: no promise is read with it.
use Rattle.std.specs.Prelude.{◌≡◌, ◌<◌, ℕ, List, length, Some, slice_get}

-- the list has n elements, which are what the function gives at their places
pub record IsTableOf (n : ℕ) (f : ℕ → ℕ) (xs : List ℕ) : Type 0 where
  pub size : length xs ≡ n
  pub at : (p : ℕ) → p < n → slice_get xs p ≡ Some (f p)
