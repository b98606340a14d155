-- The text of tokens: their spellings, and what stands behind each.
-- Trusted: part of what a promise means.
use Rattle.std.specs.Prelude.{ℕ, List, [], ◌∷◌, ◌++◌}
use Rattle.cal_lexer.specs.Lexeme.{Lexeme}
use Rattle.cal_lexer.specs.Words.{spelling}

-- what stands behind a token: LF behind `;` and `end`, else a space
abbrev pub gap_behind : Lexeme → ℕ
gap_behind Lexeme.Semicolon = 10
gap_behind Lexeme.End = 10
gap_behind _ = 32

-- The text of tokens. The last one of a file is `end`, so no file's text ends with a space.
abbrev pub text_of : List Lexeme → List ℕ
text_of [] = []
text_of (w ∷ rest) = spelling w ++ (gap_behind w ∷ text_of rest)
