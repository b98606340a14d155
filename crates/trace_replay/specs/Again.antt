-- A line that is read again.
-- Not trusted: no promise is read with it.
use Rattle.std.specs.Prelude.{◌≡◌, ℕ, ◌+◌, ◌≤◌, List, ◌++◌, length}
use Rattle.trace_text.specs.declared.line.Line.{Line}
use Rattle.trace_text.specs.declared.line.Line.TheVariants.{Fire}
use Rattle.trace_text.specs.Spelling.{Spells}
use Rattle.trace_replay.specs.Judging.{max_trace_bytes}
use Rattle.trace_replay.specs.declared.scan.TraceLines.{TraceLines}

-- the text of this line, which is that of a firing, went from the front of the bytes that were pulled
pub record ReadsAgain (line : Line) (old new : TraceLines) : Type 0 where
  pub inst : ℕ
  pub action : ℕ
  pub is_firing : line ≡ Fire inst action
  pub text : List ℕ
  pub spelled : Spells line text
  pub bytes : old.bytes ≡ text ++ new.bytes
  pub count : new.passed ≡ old.passed + length text
  pub within : new.passed ≤ max_trace_bytes
