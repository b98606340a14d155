-- The limit of turns.
-- Trusted: part of what a promise means.
use Rattle.std.specs.Prelude.{ℕ, ◌≡◌, refl}

-- The most turns of one firing, its guards apart, and of one guard. Proofs go by this name: they never count
-- so far.
unfoldable pub max_turns : ℕ
max_turns = 1048576

pub max_turns_is : 1048576 ≡ max_turns
unfolding max_turns
max_turns_is = refl
