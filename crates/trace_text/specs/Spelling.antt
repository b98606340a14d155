-- Which bytes are a line of the table, and which begin one.
-- Trusted: part of what a promise means.
use Rattle.std.specs.Prelude.{◌≡◌, ◌==◌, ℕ, ◌<◌, List, [], ◌∷◌, ◌++◌, codes, if◌then◌else◌}
use Rattle.trace_text.specs.declared.line.Line.{Line}
use Rattle.trace_text.specs.declared.line.Line.TheVariants.{Inst}
use Rattle.trace_text.specs.Text.{line_text, line_feed}
use Rattle.trace_text.specs.Table.{number_bound, IsWritten}
use Rattle.trace_text.specs.Names.{IsPath, IsClass}

-- The text is this line, its line feed included, and the line's numbers are within their bounds.
abbrev pub Spells : Line → List ℕ → Type 0
Spells (Inst inst) text =
    (inst < number_bound) × ((path : List ℕ) × (class : List ℕ) × IsPath path × IsClass class
    × (text ≡ line_text (Inst inst) ++ path ++ codes " " ++ class ++ line_feed))
Spells line text = IsWritten line × (text ≡ line_text line)

-- bytes that begin a line
abbrev pub Begins : List ℕ → Type 0
Begins bytes = (line : Line) × (more : List ℕ) × Spells line (bytes ++ more)

-- bytes that begin a line and are none
abbrev pub IsFront : List ℕ → Type 0
IsFront bytes = Begins bytes × ((line : Line) → Spells line bytes → ⊥)

-- the bytes since the last line feed, once a byte more was read
abbrev pub since_line_feed : List ℕ → ℕ → List ℕ
since_line_feed read byte = if byte == 10 then [] else read ++ byte ∷ []
