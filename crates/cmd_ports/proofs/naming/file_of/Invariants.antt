use Rattle.std.proofs.Common.{◌≡◌, map}
use Rattle.std.proofs.Common.{drop}
use Rattle.rvc_words.specs.Words.{port_text}
use Rattle.cmd_ports.specs.Matching.{file_of}
use Rattle.cmd_ports.proofs.naming.file_of.Given as goal

abbrev pub invariant-loop-word : goal.invariant-loop-word
invariant-loop-word l = file_of l.name (map port_text l.words) ≡ file_of l.name (map port_text (drop l.word-index l.words))
