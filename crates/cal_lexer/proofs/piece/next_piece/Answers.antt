use Rattle.std.proofs.Common.{◌≡◌, true, sym, ◌∙◌, subst}
use Rattle.std.specs.Prelude.{slice_index}
use borrow.Author.Tests.{ne_eqb}
use Rattle.cal_lexer.specs.Lexes.{no_token}
use Rattle.cal_lexer.specs.Pieces.{IsGap}
use Rattle.cal_lexer.proofs.Fronts.{gap_line, front_quote, front_other, first_is, second_is}
use Rattle.cal_lexer.proofs.piece.next_piece.Goals as goal

pub returns-then-line : goal.returns-then-line
returns-then-line c =
    let text = c.args.text.now in
    let mark = sym c.if-line.ensures in
    let zeroth : slice_index text 0 ≡ 47 = sym c.byte_at-first.ensures ∙ first_is c.byte_at-first.result c.byte_at-second.result 47 mark in
    let first : slice_index text 1 ≡ 47 = sym c.byte_at-second.ensures ∙ second_is c.byte_at-first.result c.byte_at-second.result 47 mark in
    subst (IsGap text) (sym c.line_len.ensures) (gap_line text zeroth first)

pub returns-then-first-eq34 : goal.returns-then-first-eq34
returns-then-first-eq34 c = λ at. no_token (front_quote c.args.text.now (sym c.byte_at-first.ensures ∙ c.if-first-eq34.true))

pub returns-then-foreign : goal.returns-then-foreign
returns-then-foreign c = λ at.
    let text = c.args.text.now in
    let b = c.byte_at-first in
    let d = c.byte_at-second in
    no_token (front_other text true c.requires (rw (← b.ensures) (sym c.if-is_blank.ensures)) (rw (← b.ensures, ← d.ensures) (sym c.if-line.ensures)) (rw (← b.ensures, ← d.ensures) (sym c.if-block.ensures)) (rw (← b.ensures) (ne_eqb b.result 34 c.if-first-eq34.false)) (rw (← b.ensures, ← d.ensures) (sym c.if-foreign.ensures)))
