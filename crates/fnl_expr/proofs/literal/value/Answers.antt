use Rattle.std.proofs.Common.{◌≡◌, ◌+◌, ◌*◌, ◌≤◌, ◌^◌, take, get_or, ap, arith}
use Rattle.std.proofs.lemmas.List.Sums.{fold_more}
use Rattle.cal_lexer.specs.Lexis.{value_of, digit_value}
use Rattle.cal_lexer.proofs.Runs.{value_grows}
use Rattle.fnl_expr.proofs.literal.value.Goals as goal

pub returns-in_err-value : goal.returns-in_err-value
returns-in_err-value c =
    let digits = c.args.digits.now in
    let i = c.loop-b.b-index in
    let digit = digit_value (get_or digits i 0) in
    let step : value_of 10 (take (i + 1) digits) ≡ value_of 10 (take i digits) * 10 + digit = fold_more (λ value b. value * 10 + digit_value b) 0 digits i 0 c.loop-b-test.true in
    let same : c.loop-b.value * 10 + digit ≡ value_of 10 (take i digits) * 10 + digit = ap (λ v. v * 10 + digit) c.loop-b.invariant.0 in
    let grown : value_of 10 (take (i + 1) digits) ≤ value_of 10 digits = value_grows 10 digits (i + 1) (omega arith) in
    let big : 2 ^ 128 ≤ c.loop-b.value * 10 + digit = c.in_err-value.ensures in
    rw c.from_residual.ensures (omega arith)
