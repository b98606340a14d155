use Rattle.std.proofs.Common.{sym, ◌∙◌, arith}
use Rattle.std.proofs.lemmas.Bool.{false≢true}
use Rattle.rvc_words.proofs.Numerals.{number_some, number_none, parsed_ok, parsed_err}
use Rattle.rvc_words.proofs.numbers.read_number.Goals as goal

pub returns-then-word-gt-MAX_DIGITS-clause-value : goal.returns-then-word-gt-MAX_DIGITS-clause-value
returns-then-word-gt-MAX_DIGITS-clause-value c = number_none c.args.least c.args.most c.args.word.now (λ some short digits low high. omega arith)

pub returns-then-not-is_digits-clause-value : goal.returns-then-not-is_digits-clause-value
returns-then-not-is_digits-clause-value c = number_none c.args.least c.args.most c.args.word.now (λ some short digits low high. false≢true (c.if-not-is_digits.ensures ∙ digits))

pub returns-in_default-clause-value : goal.returns-in_default-clause-value
returns-in_default-clause-value c =
    number_none c.args.least c.args.most c.args.word.now (λ some short digits low high. parsed_err c.args.word.now c.in_default.ensures.value.0 digits some (omega arith))

pub returns-then-value-least-clause-value : goal.returns-then-value-least-clause-value
returns-then-value-least-clause-value c =
    number_none c.args.least c.args.most c.args.word.now (λ some short digits low high.
    let p = parsed_ok c.args.word.now c.in-Ok.value c.in-Ok.ensures.value.0 digits in
    absurd (omega (arith, p.1)))

pub returns-then-most-value-clause-value : goal.returns-then-most-value-clause-value
returns-then-most-value-clause-value c =
    number_none c.args.least c.args.most c.args.word.now (λ some short digits low high.
    let p = parsed_ok c.args.word.now c.in-Ok.value c.in-Ok.ensures.value.0 digits in
    absurd (omega (arith, p.1)))

pub returns-clause-value : goal.returns-clause-value
returns-clause-value c =
    let digits = sym c.if-not-is_digits.ensures in
    let p = parsed_ok c.args.word.now c.in-Ok.value c.in-Ok.ensures.value.0 digits in
    number_some c.args.least c.args.most c.args.word.now c.in-Ok.value p.0 (omega arith) digits p.1 (omega arith) (omega arith)
