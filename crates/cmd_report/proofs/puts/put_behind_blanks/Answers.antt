use Rattle.std.proofs.Common.{◌+◌, drop, map}
use Rattle.cmd_report.specs.Line.{behind_blanks}
use Rattle.cmd_report.specs.WordText.{word_text}
use Rattle.cmd_report.proofs.Chain.{breaks_off, goes_on}
use Rattle.cmd_report.proofs.NextWord.{next_word}
use Rattle.cmd_report.proofs.puts.put_behind_blanks.Goals as goal

pub returns-in_err-put_behind : goal.returns-in_err-put_behind
returns-in_err-put_behind g c = breaks_off (behind_blanks (map word_text c.args.words.now)) _ _ (behind_blanks (map word_text (drop (c.loop-word.word-index + 1) c.args.words.now))) _ _ _ c.from_residual.result c.from_residual.ensures.0
    (next_word c.args.words.now c.loop-word.word-index _ c.loop-word-test.true) c.loop-word.invariant c.in_err-put_behind.ensures

pub loop-word-preserved : goal.loop-word-preserved
loop-word-preserved g c = goes_on (behind_blanks (map word_text c.args.words.now)) _ _ (behind_blanks (map word_text (drop (c.loop-word.word-index + 1) c.args.words.now))) _ _ _
    (next_word c.args.words.now c.loop-word.word-index _ c.loop-word-test.true) c.loop-word.invariant c.in_ok-put_behind.ensures
