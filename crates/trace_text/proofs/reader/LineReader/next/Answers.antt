use Rattle.std.proofs.Common.{ℕ, List, [], ◌∷◌, ◌++◌, ◌∙◌, sym, subst}
use Rattle.trace_text.specs.declared.reader.Step2.{Step2}
use Rattle.trace_text.specs.Spelling.{since_line_feed}
use Rattle.trace_text.specs.HasRead.{HasRead}
use Rattle.trace_text.specs.ReadBack.{IsAnswer}
use Rattle.trace_text.proofs.Reading.{stands, says_line, is_said, says_more, more_is_said, says_bad, bad_is_said, is_answer}
use Rattle.trace_text.proofs.Only.{tells_on, read_line_feed, read_other}
use Rattle.trace_text.proofs.reader.LineReader.next.Goals as goal
use Rattle.trace_text.proofs.reader.LineReader.next.Goals.{then-byte-eq10, else-byte-eq10}

pub returns-clause-line : goal.returns-clause-line
returns-clause-line c read line h =
    let place = c.advance-place.result in
    let there = stands c.args.self.now read c.args.byte place h c.advance-place.ensures in (
      λ e. says_line place (read ++ c.args.byte ∷ []) there line (sym c.answer.ensures ∙ e),
      λ w. c.answer.ensures ∙ is_said place (read ++ c.args.byte ∷ []) there line w,
    )

pub returns-clause-more : goal.returns-clause-more
returns-clause-more c read h =
    let place = c.advance-place.result in
    let there = stands c.args.self.now read c.args.byte place h c.advance-place.ensures in (
      λ e. says_more place (read ++ c.args.byte ∷ []) there (sym c.answer.ensures ∙ e),
      λ w. c.answer.ensures ∙ more_is_said place (read ++ c.args.byte ∷ []) there w,
    )

pub returns-clause-bad : goal.returns-clause-bad
returns-clause-bad c read h =
    let place = c.advance-place.result in
    let there = stands c.args.self.now read c.args.byte place h c.advance-place.ensures in (
      λ e. says_bad place (read ++ c.args.byte ∷ []) there (sym c.answer.ensures ∙ e),
      λ none. c.answer.ensures ∙ bad_is_said place (read ++ c.args.byte ∷ []) there none,
    )

pub returns-clause-answer : goal.returns-clause-answer
returns-clause-answer c read h =
    let place = c.advance-place.result in
    let there = stands c.args.self.now read c.args.byte place h c.advance-place.ensures in
    subst (λ (answer : Step2). IsAnswer (read ++ c.args.byte ∷ []) answer) (sym c.answer.ensures)
    (is_answer place (read ++ c.args.byte ∷ []) there)

pub returns-clause-told : goal.returns-clause-told
returns-clause-told c lines text h =
    tells_on c.args.self.now (record { place = c.if-byte-eq10.self }) lines text c.args.byte c.answer.result h
    (returns-clause-answer c) reads where
      reads : (read : List ℕ) → HasRead c.args.self.now read → HasRead (record { place = c.if-byte-eq10.self }) (since_line_feed read c.args.byte)
      reads read w = elim c.if-byte-eq10.branch [
        | then-byte-eq10 b ↦ read_line_feed c.if-byte-eq10.self read c.args.byte b.self-is b.if-byte-eq10.true
        | else-byte-eq10 b ↦ read_other c.if-byte-eq10.self c.advance-place.result read c.args.byte
            (stands c.args.self.now read c.args.byte c.advance-place.result w c.advance-place.ensures) b.self-is b.if-byte-eq10.false
      ]
