-- Whole texts of lines, and what is answered of each of their bytes.
-- Trusted: part of what a promise means.
use Rattle.std.specs.Prelude.{◌≡◌, ◌≢◌, ◌⊎◌, ℕ, ◌-◌, List, [], ◌∷◌, ◌++◌, length, replicate}
use Rattle.std.specs.List.{concat}
use Rattle.trace_text.specs.declared.line.Line.{Line}
use Rattle.trace_text.specs.declared.reader.Step2.{Step2}
use Rattle.trace_text.specs.declared.reader.Step2.TheVariants.{More, Line as TheLine, Bad}
use Rattle.trace_text.specs.Text.{line_feed}
use Rattle.trace_text.specs.Spelling.{Spells, Begins, IsFront, since_line_feed}

-- each text is its line
abbrev pub SpellEach : List Line → List (List ℕ) → Type 0
SpellEach [] [] = Unit {0}
SpellEach [] (text ∷ texts) = ⊥
SpellEach (line ∷ lines) [] = ⊥
SpellEach (line ∷ lines) (text ∷ texts) = Spells line text × SpellEach lines texts

-- The text is these lines, one after another.
abbrev pub AreLines : List Line → List ℕ → Type 0
AreLines lines text = (texts : List (List ℕ)) × SpellEach lines texts × (text ≡ concat texts)

-- bytes that begin the text of some lines
abbrev pub BeginLines : List ℕ → Type 0
BeginLines bytes = (lines : List Line) × (more : List ℕ) × AreLines lines (bytes ++ more)

-- no byte, or bytes of which the last is a line feed
abbrev pub IsEnded : List ℕ → Type 0
IsEnded bytes = (bytes ≡ []) ⊎ ((before : List ℕ) × (bytes ≡ before ++ line_feed))

abbrev pub HasNoLineFeed : List ℕ → Type 0
HasNoLineFeed [] = Unit {0}
HasNoLineFeed (byte ∷ bytes) = (byte ≢ 10) × HasNoLineFeed bytes

-- what is answered if these are the bytes since the last line feed
abbrev pub IsAnswer : List ℕ → Step2 → Type 0
IsAnswer bytes (TheLine line) = Spells line bytes
IsAnswer bytes More = IsFront bytes
IsAnswer bytes Bad = ¬ Begins bytes

-- what is answered of each byte of a text, if these bytes stand before it since the last line feed
abbrev pub AreAnswers : List ℕ → List ℕ → List Step2 → Type 0
AreAnswers read [] [] = Unit {0}
AreAnswers read [] (answer ∷ answers) = ⊥
AreAnswers read (byte ∷ bytes) [] = ⊥
AreAnswers read (byte ∷ bytes) (answer ∷ answers) =
    IsAnswer (read ++ byte ∷ []) answer × AreAnswers (since_line_feed read byte) bytes answers

abbrev pub NoneIsBad : List Step2 → Type 0
NoneIsBad [] = Unit {0}
NoneIsBad (answer ∷ answers) = (answer ≢ Bad) × NoneIsBad answers

-- the lines among answers, in order
abbrev pub lines_among : List Step2 → List Line
lines_among [] = []
lines_among (TheLine line ∷ answers) = line ∷ lines_among answers
lines_among (More ∷ answers) = lines_among answers
lines_among (Bad ∷ answers) = lines_among answers

-- more is asked for at each byte of a text but the last, and the line is told there
abbrev pub answers_to : Line → List ℕ → List Step2
answers_to line text = replicate (length text - 1) More ++ TheLine line ∷ []

-- the same of lines and their texts
abbrev pub answers_to_each : List Line → List (List ℕ) → List Step2
answers_to_each [] texts = []
answers_to_each (line ∷ lines) [] = []
answers_to_each (line ∷ lines) (text ∷ texts) = answers_to line text ++ answers_to_each lines texts
