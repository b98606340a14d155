use Rattle.std.proofs.Common.{◌≡◌, ◌++◌, length, map}
use Rattle.rvc_words.specs.Words.{port_text}
use Rattle.cmd_gen.proofs.making.copy_words.Given as goal

abbrev pub invariant-words : goal.invariant-words
invariant-words l = map port_text l.copy.items ++ map port_text l.rest ≡ map port_text l.initial.rest

abbrev pub decreases-words : goal.decreases-words
decreases-words l = length l.rest
