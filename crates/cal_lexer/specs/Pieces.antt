-- What one step of reading finds.
-- Not trusted: no promise is read with it.
use Rattle.std.specs.Prelude.{◌≡◌, ℕ, ◌^◌, ◌<◌, ◌≤◌, List, take, drop, length, Bool, true, false, Some, None, slice_index}
use Rattle.std.specs.List.{list_all}
use Rattle.cal_lexer.specs.Lexeme.{Lexeme, Number, lexeme}
use Rattle.cal_lexer.specs.Lexis.{front, IsNext, flaw, symbol}
use Rattle.cal_lexer.specs.Lexis as lexis
use Rattle.cal_lexer.specs.Lexes.{FaultsFrom}
use Rattle.cal_lexer.specs.declared.piece.Piece.{Piece}
use Rattle.cal_lexer.specs.declared.piece.Piece.TheVariants.{Gap, Token, Fault}

-- no longer prefix is a symbol
pub record IsLongestSymbol (bytes : List ℕ) (size : ℕ) (kind : Lexeme) : Type 0 where
  pub positive : 0 < size
  pub within : size ≤ length bytes
  pub is : symbol (take size bytes) ≡ Some kind
  pub longest : (more : ℕ) → size < more → more ≤ length bytes → symbol (take more bytes) ≡ None

-- the first n bytes pass, and the next does not
pub record IsRun (passes : ℕ → Bool) (bytes : List ℕ) (n : ℕ) : Type 0 where
  pub within : n ≤ length bytes
  pub pass : list_all passes (take n bytes) ≡ true
  pub stops : n < length bytes → passes (slice_index bytes n) ≡ false

pub record IsGap (bytes : List ℕ) (size : ℕ) : Type 0 where
  pub positive : 0 < size
  pub within : size ≤ length bytes
  pub is : front bytes ≡ lexis.Gap size

pub record IsToken (bytes : List ℕ) (size : ℕ) (kind : Lexeme) : Type 0 where
  pub positive : 0 < size
  pub next : IsNext bytes size kind
  pub flawless : flaw kind (take size bytes) (drop size bytes) ≡ None

-- a number that needs more than 128 bits
pub record IsTooBig (bytes : List ℕ) (size : ℕ) : Type 0 where
  pub value : ℕ
  pub big : 2 ^ 128 ≤ value
  pub next : IsNext bytes size (Number value)

-- a number that fits 128 bits
pub record IsNumber (bytes : List ℕ) (size : ℕ) (value : ℕ) : Type 0 where
  pub small : value < 2 ^ 128
  pub next : IsNext bytes size (Number value)

-- the piece is what the bytes begin with
abbrev pub IsPiece : List ℕ → Piece → Type 0
IsPiece bytes (Gap size) = IsGap bytes size
IsPiece bytes (Token kind size) = IsToken bytes size (lexeme kind)
IsPiece bytes (Fault rule) = (at : ℕ) → FaultsFrom bytes at rule at
