-- What holds of all texts of lines, as statements.
-- Trusted: part of what a promise means.
use Rattle.std.specs.Prelude.{◌≡◌, ◌≢◌, ◌↔◌, ℕ, List, [], ◌++◌, flat_map}
use Rattle.std.specs.List.{concat}
use Rattle.trace_text.specs.declared.line.Line.{Line}
use Rattle.trace_text.specs.declared.reader.LineReader.{LineReader}
use Rattle.trace_text.specs.declared.reader.Step2.{Step2}
use Rattle.trace_text.specs.Text.{line_text, line_feed}
use Rattle.trace_text.specs.Table.{AreWritten}
use Rattle.trace_text.specs.Spelling.{Spells, IsFront}
use Rattle.trace_text.specs.HasTold.{HasTold}
use Rattle.trace_text.specs.ReadBack.{SpellEach, AreLines, BeginLines, IsEnded, HasNoLineFeed, AreAnswers, NoneIsBad, lines_among, answers_to, answers_to_each}

-- a text is one line at most
abbrev pub IsOneLine : Type 0
IsOneLine = (this that : Line) (text : List ℕ) → Spells this text → Spells that text → this ≡ that

-- a line's text ends at its first line feed
abbrev pub EndsAtLineFeed : Type 0
EndsAtLineFeed = (line : Line) (text : List ℕ) → Spells line text
    → (before : List ℕ) × HasNoLineFeed before × (text ≡ before ++ line_feed)

-- what stands in a line's text before its last byte, or before an earlier one, is no line
abbrev pub FrontIsNoLine : Type 0
FrontIsNoLine = (line : Line) (front rest : List ℕ) → Spells line (front ++ rest) → rest ≢ []
    → IsFront front

-- a text is one list of lines at most, and is cut into their texts in one way
abbrev pub IsCutInOneWay : Type 0
IsCutInOneWay = (these those : List Line) (texts others : List (List ℕ)) → SpellEach these texts
    → SpellEach those others
    → concat texts ≡ concat others → (these ≡ those) × (texts ≡ others)

-- lines whose text begins a text of lines are the first of these, and the others stand behind them
abbrev pub BeginsWithItsFirstLines : Type 0
BeginsWithItsFirstLines = (these those : List Line) (text more : List ℕ) → AreLines these text
    → AreLines those (text ++ more)
    → (others : List Line) × (those ≡ these ++ others) × AreLines others more

-- lines behind lines are lines
abbrev pub LinesBehindLines : Type 0
LinesBehindLines = (these those : List Line) (text behind : List ℕ) → AreLines these text
    → AreLines those behind
    → AreLines (these ++ those) (text ++ behind)

-- the texts of written lines, one after another, are these lines
abbrev pub WrittenAreLines : Type 0
WrittenAreLines = (lines : List Line) → AreWritten lines → AreLines lines (flat_map line_text lines)

-- each byte of a text has one answer at most
abbrev pub HasOneAnswerEach : Type 0
HasOneAnswerEach = (text : List ℕ) (these those : List Step2) → AreAnswers [] text these
    → AreAnswers [] text those → these ≡ those

-- Of a line's text more is asked for at each byte but the last, and there the line is told.
abbrev pub LineIsReadBack : Type 0
LineIsReadBack = (line : Line) (text : List ℕ) (answers : List Step2) → Spells line text
    → AreAnswers [] text answers ↔ (answers ≡ answers_to line text)

-- Of the texts of lines, one after another, each is answered so.
abbrev pub LinesAreReadBack : Type 0
LinesAreReadBack = (lines : List Line) (texts : List (List ℕ)) (answers : List Step2)
    → SpellEach lines texts
    → AreAnswers [] (concat texts) answers ↔ (answers ≡ answers_to_each lines texts)

-- A text is lines, one after another, exactly if its last byte, if it has one, is a line feed, no answer is
-- bad, and these are the lines that are told.
abbrev pub OnlyLinesAreReadBack : Type 0
OnlyLinesAreReadBack = (lines : List Line) (text : List ℕ) (answers : List Step2)
    → AreAnswers [] text answers
    → AreLines lines text ↔ (IsEnded text × NoneIsBad answers × (lines_among answers ≡ lines))

-- Bytes begin the text of some lines exactly if no answer is bad.
abbrev pub BadBeginsNoLines : Type 0
BadBeginsNoLines = (bytes : List ℕ) (answers : List Step2) → AreAnswers [] bytes answers
    → BeginLines bytes ↔ NoneIsBad answers

-- If a reader has told lines of bytes, they are the first of any lines whose text begins with these bytes ..
abbrev pub ToldAreFirst : Type 0
ToldAreFirst = (reader : LineReader) (lines those : List Line) (bytes more : List ℕ)
    → HasTold reader lines bytes
    → AreLines those (bytes ++ more) → (others : List Line) × (those ≡ lines ++ others)

-- .. and bytes that end in a line feed are these lines.
abbrev pub ToldAreWhole : Type 0
ToldAreWhole = (reader : LineReader) (lines : List Line) (text : List ℕ) → HasTold reader lines text
    → IsEnded text
    → AreLines lines text
