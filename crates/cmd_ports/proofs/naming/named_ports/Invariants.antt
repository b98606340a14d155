use Rattle.std.proofs.Common.{◌≡◌, map, take}
use Rattle.rvc_words.specs.Words.{port_text}
use Rattle.cmd_ports.specs.Matching.{names_of}
use Rattle.cmd_ports.specs.Opening.{has_files}
use Rattle.cmd_ports.proofs.naming.named_ports.Given as goal

abbrev pub invariant-loop-port : goal.invariant-loop-port
invariant-loop-port l = l.named.items ≡ has_files (names_of (take l.port-index l.ports)) (map port_text l.words)
