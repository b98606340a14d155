-- Questions on what stands at the front of a list of tokens.
-- Trusted for `offset` and `same_word` alone: part of what a promise means.
use Rattle.std.specs.Prelude.{ℕ, List, [], Bool, true, false, ◌&&◌, Option, None, Some, nat_eq, nat_lt}
use Rattle.cal_lexer.specs.Lexeme.{Lexeme, Placed, placed}
use Rattle.cal_lexer.specs.Words.{word_number}

-- the offset of its first byte
abbrev pub offset : Placed → ℕ
offset (placed kind at) = at

abbrev pub kind_of : Placed → Lexeme
kind_of (placed kind at) = kind

-- the text of a name
abbrev pub text_in : Lexeme → List ℕ
text_in (Lexeme.Name text) = text
text_in _ = []

abbrev pub text_of : Placed → List ℕ
text_of t = text_in (kind_of t)

-- the value of a number
abbrev pub value_in : Lexeme → ℕ
value_in (Lexeme.Number value) = value
value_in _ = 0

abbrev pub value_of : Placed → ℕ
value_of t = value_in (kind_of t)

-- whether both are the same word or symbol
abbrev pub same_word : Lexeme → Lexeme → Bool
same_word v w = nat_lt 0 (word_number v) && nat_eq (word_number v) (word_number w)

abbrev pub names : Lexeme → Bool
names (Lexeme.Name text) = true
names _ = false

abbrev pub counts : Lexeme → Bool
counts (Lexeme.Number value) = true
counts _ = false

-- whether a token of such a kind stands here
abbrev pub here : (Lexeme → Bool) → Option Placed → Bool
here f None = false
here f (Some t) = f (kind_of t)
