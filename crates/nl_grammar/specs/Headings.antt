-- The words of networks that are names elsewhere.
-- Trusted: part of what a promise means.
use Rattle.std.specs.Prelude.{ℕ, List, Bool, false, codes}
use Rattle.std.specs.Str.{bytes_eq}
use Rattle.cal_lexer.specs.Lexeme.{Lexeme}

-- whether this name stands there
abbrev pub is_called : List ℕ → Lexeme → Bool
is_called name (Lexeme.Name text) = bytes_eq text name
is_called name _ = false

abbrev pub network_word : List ℕ
network_word = codes "network"

abbrev pub entities_word : List ℕ
entities_word = codes "entities"

abbrev pub structure_word : List ℕ
structure_word = codes "structure"

-- the attribute of a connection that counts
abbrev pub size_word : List ℕ
size_word = codes "bufferSize"
