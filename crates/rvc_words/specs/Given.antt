-- The parts as the code has them.
-- Not trusted: no promise is read with it.
use Rattle.std.specs.Prelude.{List, [], Option, option_map, unwrap_or}
use Rattle.std.specs.Borrow.{Bor}
use Rattle.clap.specs.Walk.{Text, texts}
use Rattle.rvc_words.specs.declared.parts.Parts.{Parts as Given}
use Rattle.rvc_words.specs.Command.{Parts}

-- the word behind a reference, if there is one
abbrev pub word_of : Option (Bor Text) → Option Text
word_of = option_map (λ s. s.now)

-- the words behind references, if there are some
abbrev pub words_of : Option (Bor (List (Bor Text))) → List Text
words_of words = unwrap_or (option_map (λ s. texts s.now) words) []

abbrev pub parts_text : Given → Parts
parts_text g = record {
  verb = g.verb.now;
  top = g.top.now;
  ports = words_of g.ports;
  trace = g.trace.now;
  workers = word_of g.workers;
  round = word_of g.round;
  burst = word_of g.burst;
  budget = word_of g.budget;
  grow = word_of g.grow;
}
