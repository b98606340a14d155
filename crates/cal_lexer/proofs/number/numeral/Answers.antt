use Rattle.std.proofs.Common.{◌≡◌, ◌-◌, length, take, drop, sym, ap, ◌∙◌, arith}
use Rattle.std.proofs.lemmas.List.{take_all, length-drop}
use Rattle.cal_lexer.specs.Lexis.{runs_on}
use Rattle.cal_lexer.proofs.Tokens.{too_big, runs_on_fault, zero_fault, number_token}
use Rattle.cal_lexer.proofs.number.numeral.Goals as goal

pub returns-in-None : goal.returns-in-None
returns-in-None c = λ at. too_big c.args.text.now c.args.size at (rw c.in-None.is at c.requires.read)

pub returns-then-runs_on : goal.returns-then-runs_on
returns-then-runs_on c = λ at.
    let text = c.args.text.now in
    let size = c.args.size in
    let read = rw c.in-Some.is at c.requires.read in
    let rest : take (length text - size) (drop size text) ≡ drop size text = take_all (length text - size) (drop size text) (omega (arith, length-drop size text)) in
    runs_on_fault text size c.in-Some.value at read.next read.small (ap runs_on (sym rest) ∙ sym c.if-runs_on.ensures)

pub returns-then-has_leading_zero : goal.returns-then-has_leading_zero
returns-then-has_leading_zero c = λ at.
    let text = c.args.text.now in
    let size = c.args.size in
    let read = rw c.in-Some.is at c.requires.read in
    let rest : take (length text - size) (drop size text) ≡ drop size text = take_all (length text - size) (drop size text) (omega (arith, length-drop size text)) in
    zero_fault text size c.in-Some.value at read.next read.small (ap runs_on (sym rest) ∙ sym c.if-runs_on.ensures) (sym c.if-has_leading_zero.ensures)

pub returns-else-has_leading_zero : goal.returns-else-has_leading_zero
returns-else-has_leading_zero c =
    let text = c.args.text.now in
    let size = c.args.size in
    let read = rw c.in-Some.is at c.requires.read in
    let rest : take (length text - size) (drop size text) ≡ drop size text = take_all (length text - size) (drop size text) (omega (arith, length-drop size text)) in
    number_token text size c.in-Some.value read.next read.small (ap runs_on (sym rest) ∙ sym c.if-runs_on.ensures) (sym c.if-has_leading_zero.ensures)
