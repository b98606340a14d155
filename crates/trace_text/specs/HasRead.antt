-- What a reader has read.
-- Trusted: part of what a promise means.
use Rattle.std.specs.Prelude.{ℕ, List, ◌++◌}
use Rattle.trace_text.specs.declared.line.Line.{Line}
use Rattle.trace_text.specs.declared.reader.LineReader.{LineReader}
use Rattle.trace_text.specs.Spelling.{Spells}
use Rattle.trace_text.specs.Waiting.{Waits, IsAlive}

-- The reader has read these bytes since the last line feed: it waits for just the bytes that make a line of them.
pub record HasRead (reader : LineReader) (read : List ℕ) : Type 0 where
  pub onward : (line : Line) (bytes : List ℕ) → Spells line (read ++ bytes)
      → Waits reader.place line bytes
  pub back : (line : Line) (bytes : List ℕ) → Waits reader.place line bytes
      → Spells line (read ++ bytes)
  pub alive : IsAlive reader.place
