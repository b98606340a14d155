use Rattle.std.proofs.Common.{drop, ap, ◌∙◌, arith}
use Rattle.std.proofs.lemmas.List.{take_all, length-drop}
use Rattle.cal_lexer.specs.Lexes.{no_token}
use Rattle.cal_lexer.specs.Lexis.{before, at_close}
use Rattle.cal_lexer.proofs.Fronts.{gap_comment, unclosed}
use Rattle.cal_lexer.proofs.piece.comment.Goals as goal

pub returns-then-inside-text : goal.returns-then-inside-text
returns-then-inside-text c =
    let text = c.args.text.now in
    gap_comment text _ c.requires.slash c.requires.star (c.until_close-inside.ensures ∙ ap (before at_close) (take_all _ (drop 2 text) (omega (arith, length-drop 2 text)))) c.if-inside-text.true

pub returns-else-inside-text : goal.returns-else-inside-text
returns-else-inside-text c = λ at.
    let text = c.args.text.now in
    no_token (unclosed text _ c.requires.slash c.requires.star (c.until_close-inside.ensures ∙ ap (before at_close) (take_all _ (drop 2 text) (omega (arith, length-drop 2 text)))) c.if-inside-text.false)
