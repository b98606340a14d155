-- What is promised of the reading of a file.
-- Trusted: part of what a promise means.
use Rattle.std.specs.Prelude.{◌≡◌, ℕ, List, [], ◌∷◌}
use Rattle.rvc_base.specs.Rules.{spells_no_file, too_high}
use Rattle.rvc_base.specs.declared.refusal.Rule.{Rule}
use Rattle.rvc_base.specs.declared.refusal.Front.{Front as Answer}
use Rattle.rvc_base.specs.declared.refusal.Front.TheVariants.{Refused, Memory}
use Rattle.cal_grammar.specs.Reading.{IsRefused, IsTooHigh}
use Rattle.cal_lexer.specs.Lexeme.{Placed}
use Rattle.cal_grammar.specs.Operators.{height, max_height}
use Rattle.cal_grammar.specs.Spells.{spells}
use Rattle.cal_grammar.specs.Token.{offset}

-- what is left stands where no file's tokens go on
abbrev pub IsNoFile : List Placed → List Placed → Type 0
IsNoFile ts left = IsRefused spells ts left

-- what is left stands where no file of a height that is read goes on
abbrev pub IsHighFile : List Placed → List Placed → Type 0
IsHighFile ts left = IsTooHigh spells height max_height ts left

-- the offset of the first of these tokens; if there is none, the end of the text
abbrev pub place_in : ℕ → List Placed → ℕ
place_in end [] = end
place_in end (t ∷ ts) = offset t

-- which rule of the grammar the tokens of a text of this length break, and where
pub data Breaks (end : ℕ) (ts : List Placed) : Rule → ℕ → Type 0 where
  breaks_off : (left : List Placed) → IsNoFile ts left
      → Breaks end ts spells_no_file (place_in end left)
  grows_high : (t : Placed) (left : List Placed) → IsHighFile ts (t ∷ left)
      → Breaks end ts too_high (offset t)

-- a refusal names this file, and what its tokens break; running out of memory says nothing of them
abbrev pub IsRightly : ℕ → ℕ → List Placed → Answer → Type 0
IsRightly number end ts (Refused refusal) = (refusal.place.file ≡ number)
    × Breaks end ts refusal.rule refusal.place.offset
IsRightly number end ts Memory = Unit {0}
