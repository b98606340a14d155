-- What one step of reading the text of a network finds.
-- Not trusted: no promise is read with it.
use Rattle.std.specs.Prelude.{◌≡◌, ℕ, List, ◌∷◌, Some}
use Rattle.cal_lexer.specs.Lexeme.{Lexeme, lexeme}
use Rattle.cal_lexer.specs.NetLexes.{NetFaultsFrom, brace_of}
use Rattle.cal_lexer.specs.Pieces.{IsGap, IsToken}
use Rattle.cal_lexer.specs.declared.piece.Piece.{Piece}
use Rattle.cal_lexer.specs.declared.piece.Piece.TheVariants.{Gap, Token, Fault}

-- a token of the language, or a brace
pub data IsNetToken : List ℕ → ℕ → Lexeme → Type 0 where
  plain_token : {bytes : List ℕ} {size : ℕ} {kind : Lexeme} → IsToken bytes size kind
      → IsNetToken bytes size kind
  a_brace : {b : ℕ} {bytes : List ℕ} {kind : Lexeme} → brace_of b ≡ Some kind
      → IsNetToken (b ∷ bytes) 1 kind

-- the piece is what the bytes begin with
abbrev pub IsNetPiece : List ℕ → Piece → Type 0
IsNetPiece bytes (Gap size) = IsGap bytes size
IsNetPiece bytes (Token kind size) = IsNetToken bytes size (lexeme kind)
IsNetPiece bytes (Fault rule) = (at : ℕ) → NetFaultsFrom bytes at rule at
