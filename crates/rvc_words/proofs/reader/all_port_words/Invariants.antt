use Rattle.std.proofs.Common.{◌≡◌, map, take}
use Rattle.clap.specs.Walk.{texts}
use Rattle.rvc_words.specs.Words.{port, port_text}
use Rattle.rvc_words.proofs.reader.all_port_words.Given as goal

abbrev pub invariant-loop-word : goal.invariant-loop-word
invariant-loop-word l = map port_text l.ports.items ≡ map port (texts (take l.word-index l.words))
