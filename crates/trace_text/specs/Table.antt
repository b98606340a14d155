-- Lines whose numbers are within the bounds of the trace language.
-- Trusted: part of what a promise means.
use Rattle.std.specs.Prelude.{◌≡◌, ℕ, ◌<◌, List, [], ◌∷◌, flat_map}
use Rattle.trace_text.specs.declared.line.Line.{Line}
use Rattle.trace_text.specs.declared.line.Line.TheVariants.{Header, Inst, Fire, Deliver, Grow, Quiet, Trap, Stall, Budget}
use Rattle.trace_text.specs.Text.{line_text}

-- every number of a line is below this ..
abbrev pub number_bound : ℕ
number_bound = 4294967296

-- .. and the number of an action below this
abbrev pub action_bound : ℕ
action_bound = 65536

-- a line that is written in one piece, and its numbers are within their bounds
abbrev pub IsWritten : Line → Type 0
IsWritten (Header instances links grow) =
    (instances < number_bound) × (links < number_bound) × (grow < number_bound)
IsWritten (Inst inst) = ⊥
IsWritten (Fire inst action) = (inst < number_bound) × (action < action_bound)
IsWritten Deliver = Unit {0}
IsWritten (Grow link capacity) = (link < number_bound) × (capacity < number_bound)
IsWritten Quiet = Unit {0}
IsWritten (Trap inst action trap) = (inst < number_bound) × (action < action_bound)
IsWritten (Stall inst action link) = (inst < number_bound) × (action < action_bound)
    × (link < number_bound)
IsWritten Budget = Unit {0}

abbrev pub AreWritten : List Line → Type 0
AreWritten [] = Unit {0}
AreWritten (line ∷ lines) = IsWritten line × AreWritten lines

-- one text is the text of one list of lines
abbrev pub TextTellsLines : Type 0
TextTellsLines = (these those : List Line) → AreWritten these → AreWritten those
    → flat_map line_text these ≡ flat_map line_text those → these ≡ those
