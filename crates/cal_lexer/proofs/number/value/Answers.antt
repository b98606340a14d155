use Rattle.std.proofs.Common.{◌≡◌, ◌+◌, ◌*◌, ◌≤◌, ◌^◌, take, get_or, ap, arith}
use Rattle.std.proofs.lemmas.List.Sums.{fold_more}
use Rattle.cal_lexer.specs.Lexis.{value_of, digit_value}
use Rattle.cal_lexer.proofs.Runs.{value_grows}
use Rattle.cal_lexer.proofs.number.value.Goals as goal

pub returns-in_err-value : goal.returns-in_err-value
returns-in_err-value c =
    let base = c.args.base in
    let digits = c.args.digits.now in
    let i = c.loop-b.b-index in
    let digit = digit_value (get_or digits i 0) in
    let step : value_of base (take (i + 1) digits) ≡ value_of base (take i digits) * base + digit = fold_more (λ value b. value * base + digit_value b) 0 digits i 0 c.loop-b-test.true in
    let same : c.loop-b.value * base + digit ≡ value_of base (take i digits) * base + digit = ap (λ v. v * base + digit) c.loop-b.invariant.0 in
    let grown : value_of base (take (i + 1) digits) ≤ value_of base digits = value_grows base digits (i + 1) c.requires in
    let big : 2 ^ 128 ≤ c.loop-b.value * base + digit = c.in_err-value.ensures in
    rw c.from_residual.ensures (omega arith)
