use Rattle.std.proofs.Common.{◌≡◌, ◌+◌, ◌≤◌, length, rules, arith}
use Rattle.std.proofs.lemmas.Bool.{false≢true}
use Rattle.balanced_rates.specs.Balance.{total}
use Rattle.balanced_rates.specs.Split.{at}
use Rattle.balanced_rates.proofs.Parts.{total_more, total_onward}
use Rattle.balanced_rates.proofs.split.is_within.Goals as goal

pub returns-then-sum-from : goal.returns-then-sum-from
returns-then-sum-from c =
    let firings = c.args.firings.now in
    let k = c.loop-k.k in
    let more : total (at firings) (k + 1) ≡ total (at firings) k + at firings k = total_more (at firings) k in
    let onward : total (at firings) (k + 1) ≤ total (at firings) (length firings) = total_onward (at firings) (k + 1) (length firings) (omega arith) in
    let read : c.from-sum.result ≡ at firings k = search rules in
    (λ e. absurd (false≢true e), λ within. absurd (omega arith))
