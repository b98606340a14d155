-- The tokens that a text can have.
-- Not trusted: no promise is read with it.
use Rattle.std.specs.Prelude.{◌≡◌, ◌^◌, ◌<◌, ◌≤◌, List, [], ◌∷◌, true, length, map}
use Rattle.cal_lexer.specs.Lexeme.{Lexeme, Placed}
use Rattle.cal_lexer.specs.Lexis.{is_name, max_name}
use Rattle.cal_grammar.specs.Token.{kind_of}

-- a name that is one and isn't too long, a number of at most 128 bits, or any word or symbol but braces, which only
-- networks have
abbrev pub IsPrintable : Lexeme → Type 0
IsPrintable (Lexeme.Name text) = (is_name text ≡ true) × (length text ≤ max_name)
IsPrintable (Lexeme.Number value) = value < 2 ^ 128
IsPrintable Lexeme.LeftBrace = ⊥
IsPrintable Lexeme.RightBrace = ⊥
IsPrintable _ = Unit {0}

abbrev pub ArePrintable : List Lexeme → Type 0
ArePrintable [] = Unit {0}
ArePrintable (w ∷ ws) = IsPrintable w × ArePrintable ws

-- what tokens are, without their places
abbrev pub kinds : List Placed → List Lexeme
kinds tokens = map kind_of tokens
