use Rattle.std.proofs.Common.{◌<◌, ◌++◌, ℕ, map}
use Rattle.rvc_words.specs.Words.{port_text}
use Rattle.cmd_ports.specs.Matching.{Fits, names_of}
use Rattle.cmd_ports.proofs.matching.match_words.Given as goal

abbrev pub invariant-loop-number : goal.invariant-loop-number
invariant-loop-number l = (j : ℕ) → j < l.number → Fits (names_of l.ins ++ names_of l.outs) (map port_text l.words) j
