-- Where the first of each name stands.
-- Not trusted: no promise is read with it.
use Rattle.std.specs.Prelude.{ℕ, List, [], ◌∷◌, ◌++◌, is_some, if◌then◌else◌}
use Rattle.const_env.specs.Standing.{Placed, place_named}

-- the name stands at this place, unless it stands at one already
abbrev pub with_first : (name : List ℕ) → (place : ℕ) → List Placed → List Placed
with_first name place ps = if is_some (place_named name ps) then ps else ps ++ (name, place) ∷ []
