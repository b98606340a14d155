use Rattle.std.proofs.Common.{◌≡◌, ◌≤◌, length, map}
use Rattle.rvc_words.specs.Words.{port_text}
use Rattle.cmd_ports.specs.Matching.{names_of}
use Rattle.cmd_ports.specs.Opening.{feeds_from, feeds_of}
use Rattle.cmd_report.specs.About.{file_opened}
use Rattle.cmd_report.proofs.names.input_file.Given as goal

abbrev pub invariant-links : goal.invariant-links
invariant-links l = (l.number ≤ l.feed)
    × (file_opened l.feed (feeds_of l.initial.rest (names_of l.ins) (map port_text l.words))
    ≡ file_opened l.feed (feeds_from l.number l.rest (names_of l.ins) (map port_text l.words)))

abbrev pub decreases-links : goal.decreases-links
decreases-links l = length l.rest
