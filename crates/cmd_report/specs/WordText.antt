-- What a word of a line is put as.
-- Not trusted: no promise is read with it.
use Rattle.std.specs.Prelude.{List, ℕ, decimal}
use Rattle.rvc_base.specs.Refusal.{rule_text}
use Rattle.cmd_report.specs.declared.words.Word.{Word}
use Rattle.cmd_report.specs.declared.words.Word.TheVariants as word

-- the text of a word
abbrev pub word_text : Word → List ℕ
word_text (word.Text text) = text.now
word_text (word.Number n) = decimal n
word_text (word.OfRule rule) = rule_text rule
