-- Tokens that are put behind a text, as long as there is memory.
-- Not trusted: no promise is read with it.
use Rattle.std.specs.Prelude.{ℕ, Bool, ◌≡◌, ◌++◌, List, Option, Some, None, if◌then◌else◌}
use Rattle.cal_lexer.specs.Lexeme.{Lexeme}
use Rattle.cal_print.specs.Spelling.{text_of}

-- a text, or none once memory ran out
abbrev pub text_unless : Bool → List ℕ → Option (List ℕ)
text_unless ran_out text = if ran_out then None else Some text

-- these tokens were put behind the old text, if there is a new one
pub record Writes (old : Option (List ℕ)) (ws : List Lexeme) (new : Option (List ℕ)) : Type 0 where
  pub is : (text : List ℕ) → new ≡ Some text
      → (before : List ℕ) × (old ≡ Some before) × (text ≡ before ++ text_of ws)
