-- Lines of a report.
-- Trusted: part of what a promise means.
use Rattle.std.specs.Prelude.{List, [], ◌∷◌, ◌++◌, ℕ, codes}

-- words, with a blank before each
abbrev pub behind_blanks : List (List ℕ) → List ℕ
behind_blanks [] = []
behind_blanks (word ∷ words) = codes " " ++ word ++ behind_blanks words

-- a line: a word, the others with a blank before each, and a line feed
unfoldable pub line : (first : List ℕ) → (others : List (List ℕ)) → List ℕ
line first others = first ++ behind_blanks others ++ codes "\n"
