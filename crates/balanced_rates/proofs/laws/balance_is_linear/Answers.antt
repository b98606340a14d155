use Rattle.std.proofs.Common.{◌≡◌, ◌*◌, ap, arith}
use Rattle.balanced_rates.proofs.laws.balance_is_linear.Goals as goal

pub returns-clause-sums : goal.returns-clause-sums
returns-clause-sums c firings others link one other = omega (arith, one, other)

pub returns-clause-multiples : goal.returns-clause-multiples
returns-clause-multiples c factor firings link one =
    let times : factor * (link.give * firings link.writer) ≡ factor * (link.need * firings link.reader) = ap (λ z. factor * z) one in
    omega arith
