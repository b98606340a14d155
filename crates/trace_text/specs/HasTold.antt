-- What a reader has told of a text.
-- Trusted: part of what a promise means.
use Rattle.std.specs.Prelude.{◌≡◌, ℕ, List, [], ◌∷◌, ◌++◌}
use Rattle.std.specs.List.{concat}
use Rattle.trace_text.specs.declared.line.Line.{Line}
use Rattle.trace_text.specs.declared.reader.LineReader.{LineReader}
use Rattle.trace_text.specs.declared.reader.Step2.{Step2}
use Rattle.trace_text.specs.declared.reader.Step2.TheVariants.{More, Line as TheLine, Bad}
use Rattle.trace_text.specs.Spelling.{IsFront}
use Rattle.trace_text.specs.HasRead.{HasRead}
use Rattle.trace_text.specs.ReadBack.{SpellEach, AreLines, BeginLines}

-- The reader has read this text and told these lines: the text is the lines, one after another, and then bytes
-- that begin one more and are none.
pub record HasTold (reader : LineReader) (lines : List Line) (text : List ℕ) : Type 0 where
  pub texts : List (List ℕ)
  pub read : List ℕ
  pub are_lines : SpellEach lines texts
  pub is_front : IsFront read
  pub whole : text ≡ concat texts ++ read
  pub has_read : HasRead reader read

-- What an answer says of a text that ends in the byte that was read: it is the lines that were told and this
-- one, it begins lines and is none, or it begins no lines.
abbrev pub TellsOn : LineReader → List Line → List ℕ → Step2 → Type 0
TellsOn reader lines text (TheLine line) = HasTold reader (lines ++ line ∷ []) text
    × AreLines (lines ++ line ∷ []) text
TellsOn reader lines text More = HasTold reader lines text
    × ((those : List Line) → AreLines those text → ⊥)
TellsOn reader lines text Bad = ¬ BeginLines text
