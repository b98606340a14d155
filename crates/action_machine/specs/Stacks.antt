-- A stack in a list of fixed length: the elements below an index, with the top first.
-- Not trusted: no promise is read with it.
use Rattle.std.specs.Prelude.{ℕ, zero, suc, ℤ, pos, List, [], ◌∷◌, slice_index_or}

abbrev pub top_first : {X : Type 0} → X → ℕ → List X → List X
top_first d zero xs = []
top_first d (suc n) xs = slice_index_or xs n d ∷ top_first d n xs

-- the operands, which are numbers
abbrev pub operands : ℕ → List ℤ → List ℤ
operands top stack = top_first (pos 0) top stack
