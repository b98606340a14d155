-- The row of a state before any step.
-- Not trusted: no promise is read with it.
use Rattle.std.specs.Prelude.{ℕ, Bool, Option, Some, None, if◌then◌else◌}

-- where an action leads by itself: a free one to the state itself
abbrev pub stay : ℕ → Bool → Option ℕ
stay state is_free = if is_free then Some state else None
