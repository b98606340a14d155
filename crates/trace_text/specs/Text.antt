-- The text of a line of a trace: ASCII, numbers in decimal without leading zeros, ended by one LF.
-- Trusted: part of what a promise means.
use Rattle.std.specs.Prelude.{ℕ, zero, suc, List, [], ◌∷◌, ◌++◌, codes, decimal}
use Rattle.rvc_base.specs.Trap.{trap_name}
use Rattle.trace_text.specs.declared.line.Line.{Line}
use Rattle.trace_text.specs.declared.line.Line.TheVariants.{Header, Inst, Fire, Deliver, Grow, Quiet, Trap, Stall, Budget}

abbrev pub line_feed : List ℕ
line_feed = 10 ∷ []

-- a blank and a number
abbrev pub then_number : ℕ → List ℕ
then_number n = codes " " ++ decimal n

-- The text of a line. Of an instance it is a prefix alone: its path and its class follow. If links may
-- grow, the first line is of version 2 and tells up to which capacity.
abbrev pub line_text : Line → List ℕ
line_text (Header instances links zero) =
    codes "rvc-trace 1" ++ then_number instances ++ then_number links ++ line_feed
line_text (Header instances links (suc grow)) =
    codes "rvc-trace 2" ++ then_number instances ++ then_number links ++ then_number (suc grow) ++ line_feed
line_text (Inst inst) = codes "i" ++ then_number inst ++ codes " "
line_text (Fire inst action) = codes "f" ++ then_number inst ++ then_number action ++ line_feed
line_text Deliver = codes "r" ++ line_feed
line_text (Grow link capacity) = codes "g" ++ then_number link ++ then_number capacity ++ line_feed
line_text Quiet = codes "q" ++ line_feed
line_text (Trap inst action trap) =
    codes "t" ++ then_number inst ++ then_number action ++ codes " " ++ trap_name trap ++ line_feed
line_text (Stall inst action link) =
    codes "s" ++ then_number inst ++ then_number action ++ then_number link ++ line_feed
line_text Budget = codes "b" ++ line_feed

-- a line whose text is written in one piece
abbrev pub IsWhole : Line → Type 0
IsWhole (Header instances links grow) = Unit {0}
IsWhole (Inst inst) = ⊥
IsWhole (Fire inst action) = Unit {0}
IsWhole Deliver = Unit {0}
IsWhole (Grow link capacity) = Unit {0}
IsWhole Quiet = Unit {0}
IsWhole (Trap inst action trap) = Unit {0}
IsWhole (Stall inst action link) = Unit {0}
IsWhole Budget = Unit {0}
