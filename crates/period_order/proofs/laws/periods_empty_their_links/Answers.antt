use Rattle.std.proofs.Common.{◌≡◌, ◌*◌, ap, arith}
use Rattle.period_order.specs.Turns.{turns, given, taken}
use Rattle.period_order.proofs.laws.periods_empty_their_links.Goals as goal

pub returns : goal.returns
returns c n links firings order period link among balanced =
    let writes : link.give * turns link.writer order ≡ link.give * firings link.writer = ap (λ z. link.give * z) (period.counts link.writer among.0) in
    let reads : link.need * turns link.reader order ≡ link.need * firings link.reader = ap (λ z. link.need * z) (period.counts link.reader among.1) in
    let same : given link order ≡ taken link order = omega (arith, balanced) in
    (same, omega arith)
