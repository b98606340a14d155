-- What stays the same but at one number.
-- Trusted: part of what a promise means.
use Rattle.std.specs.Prelude.{◌≡◌, ◌≢◌, ℕ}

abbrev pub SameElsewhere : {A : Type 0} → (ℕ → A) → (ℕ → A) → ℕ → Type 0
SameElsewhere old new at = (k : ℕ) → k ≢ at → new k ≡ old k
