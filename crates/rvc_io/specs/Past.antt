-- What was done through an object of the outside, and what can be read from that.
-- Trusted: part of what a promise means.
use Rattle.std.specs.Prelude.{◌≡◌, ℕ, Bool, true, false, List, [], ◌∷◌, ◌++◌, cond, ◌==◌, if◌then◌else◌, refl}
use Rattle.std.specs.Coded.{Coded, code_by, coded×, coded_ℕ, coded_list}

-- A feed or a channel of this number was opened under this name; a feed gave these bytes, of which none are its end, or a
-- channel took them; a library gave these bytes under this name, had no file of it, or found it too long.
pub data Done : Type 0 where
  Opened : (number : ℕ) → (name : List ℕ) → Done
  Passed : (number : ℕ) → (bytes : List ℕ) → Done
  Gave : (name bytes : List ℕ) → Done
  Lacked : (name : List ℕ) → Done
  Exceeded : (name : List ℕ) → Done

-- ---- what can be read from it, the last act of which stands first

-- a feed or a channel, and the name that it was opened under
pub record Naming : Type 0 where
  pub number : ℕ
  pub name : List ℕ

-- which were opened, the first of them first
abbrev pub opened : List Done → List Naming
opened [] = []
opened (Opened number name ∷ past) = opened past ++ record { number = number; name = name } ∷ []
opened (Passed number bytes ∷ past) = opened past
opened (Gave name bytes ∷ past) = opened past
opened (Lacked name ∷ past) = opened past
opened (Exceeded name ∷ past) = opened past

-- the bytes that a feed gave, or a channel took, since it was opened
abbrev pub passed : List Done → ℕ → List ℕ
passed [] number = []
passed (Opened other name ∷ past) number = if other == number then [] else passed past number
passed (Passed other bytes ∷ past) number =
    if other == number then passed past number ++ bytes else passed past number
passed (Gave name bytes ∷ past) number = passed past number
passed (Lacked name ∷ past) number = passed past number
passed (Exceeded name ∷ past) number = passed past number

abbrev is_none_of : List ℕ → Bool
is_none_of [] = true
is_none_of (byte ∷ bytes) = false

-- the last pull of a feed, since it was opened, came to its end
abbrev pub has_ended : List Done → ℕ → Bool
has_ended [] number = false
has_ended (Opened other name ∷ past) number = if other == number then false else has_ended past number
has_ended (Passed other bytes ∷ past) number =
    if other == number then is_none_of bytes else has_ended past number
has_ended (Gave name bytes ∷ past) number = has_ended past number
has_ended (Lacked name ∷ past) number = has_ended past number
has_ended (Exceeded name ∷ past) number = has_ended past number

-- ---- how the logic stores it

abbrev Parts : Type 0
Parts = ℕ × (ℕ × (List ℕ × List ℕ))

abbrev to_parts : Done → Parts
to_parts (Opened number name) = (0, (number, (name, [])))
to_parts (Passed number bytes) = (1, (number, ([], bytes)))
to_parts (Gave name bytes) = (2, (0, (name, bytes)))
to_parts (Lacked name) = (3, (0, (name, [])))
to_parts (Exceeded name) = (4, (0, (name, [])))

abbrev from_parts : Parts → Done
from_parts p =
    cond (p.0 == 0) (Opened p.1.0 p.1.1.0) (cond (p.0 == 1) (Passed p.1.0 p.1.1.1)
    (cond (p.0 == 2) (Gave p.1.1.0 p.1.1.1) (cond (p.0 == 3) (Lacked p.1.1.0) (Exceeded p.1.1.0))))

pub from_parts-to_parts : (d : Done) → from_parts (to_parts d) ≡ d
from_parts-to_parts (Opened number name) = refl
from_parts-to_parts (Passed number bytes) = refl
from_parts-to_parts (Gave name bytes) = refl
from_parts-to_parts (Lacked name) = refl
from_parts-to_parts (Exceeded name) = refl

abbrev pub coded_done : Coded (List Done)
coded_done =
    coded_list (code_by Parts
    (coded× coded_ℕ (coded× coded_ℕ (coded× (coded_list coded_ℕ) (coded_list coded_ℕ))))
    to_parts from_parts from_parts-to_parts)
