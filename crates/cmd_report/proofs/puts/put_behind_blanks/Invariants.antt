use Rattle.std.proofs.Common.{drop, map}
use Rattle.cmd_report.specs.Line.{behind_blanks}
use Rattle.cmd_report.specs.WordText.{word_text}
use Rattle.cmd_report.specs.Steps.{PutsSoFar}
use Rattle.cmd_report.proofs.puts.put_behind_blanks.Given as goal

abbrev pub invariant-loop-word : goal.invariant-loop-word
invariant-loop-word g l = PutsSoFar (behind_blanks (map word_text l.words)) (behind_blanks (map word_text (drop l.word-index l.words)))
    (g.D.Drains.channels l.initial.drains) (g.D.Drains.channels l.drains)
