-- Vectors that were lent as slices.
use Rattle.std.proofs.Common.{◌≡◌, ℕ, List, ◌++◌, length, take, drop}
use Rattle.std.proofs.lemmas.List.{take_at}

-- what was written to the whole of a vector is the whole of it
pub written_back : {A : Type 0} (items new : List A) (n : ℕ) → length new ≡ n → take n (new ++ drop (length new) items) ≡ new
written_back items new n len = take_at new (drop (length new) items) n len
