-- The names in the line of an instance: a path, whose names are joined by `/`, and a class, whose names are joined by `.`.
-- Trusted: part of what a promise means.
use Rattle.std.specs.Prelude.{◌≡◌, ◌==◌, ◌&&◌, ◌||◌, ℕ, Bool, true, nat_le, List, [], ◌∷◌, ◌++◌}

-- a name begins with a letter or `_` ..
abbrev pub is_letter : ℕ → Bool
is_letter b = (nat_le 65 b && nat_le b 90) || (nat_le 97 b && nat_le b 122) || b == 95

-- .. and goes on with letters, digits and `_`
abbrev pub is_name_byte : ℕ → Bool
is_name_byte b = is_letter b || (nat_le 48 b && nat_le b 57)

abbrev pub AreNameBytes : List ℕ → Type 0
AreNameBytes [] = Unit {0}
AreNameBytes (b ∷ bytes) = (is_name_byte b ≡ true) × AreNameBytes bytes

abbrev pub IsName : List ℕ → Type 0
IsName [] = ⊥
IsName (b ∷ bytes) = (is_letter b ≡ true) × AreNameBytes bytes

abbrev pub AreNames : List (List ℕ) → Type 0
AreNames [] = Unit {0}
AreNames (name ∷ names) = IsName name × AreNames names

-- each name behind the separator
abbrev pub each_behind : ℕ → List (List ℕ) → List ℕ
each_behind separator [] = []
each_behind separator (name ∷ names) = (separator ∷ name) ++ each_behind separator names

-- one name or more, joined by the separator
abbrev pub IsJoined : ℕ → List ℕ → Type 0
IsJoined separator text =
    (first : List ℕ) × (others : List (List ℕ)) × IsName first × AreNames others
    × (text ≡ first ++ each_behind separator others)

abbrev pub slash : ℕ
slash = 47

abbrev pub dot : ℕ
dot = 46

abbrev pub IsPath : List ℕ → Type 0
IsPath text = IsJoined slash text

abbrev pub IsClass : List ℕ → Type 0
IsClass text = IsJoined dot text
