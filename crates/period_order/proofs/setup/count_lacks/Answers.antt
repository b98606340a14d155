use Rattle.std.proofs.Common.{◌≡◌, ◌<◌, ◌≤◌, length, arith}
use Rattle.balanced_rates.specs.Balance.{total}
use Rattle.balanced_rates.specs.Split.{at}
use Rattle.period_order.specs.Board.{lacks, link_at}
use Rattle.period_order.proofs.Sums.{sum_within}
use Rattle.period_order.proofs.Taking.{lacks_at_most}
use Rattle.period_order.proofs.Moving.{lacks_counted}
use Rattle.period_order.proofs.setup.count_lacks.Goals as goal

pub loop-l-preserved : goal.loop-l-preserved
loop-l-preserved c leaf inside =
    let links = c.args.links.now in
    let l = c.loop-l.l in
    let reader_in : (link_at links l).reader < length c.args.unmet.now = (c.requires.among l (record { writer = 0; reader = 0; give = 0; need = 0 }) c.loop-l-test.true).1 in
    lacks_counted links l c.loop-l.unmet c.lack_at_first-lack.result leaf (omega (arith, reader_in)) c.lack_at_first-lack.ensures (c.loop-l.invariant leaf inside)

pub overflow_add-unmet : goal.overflow_add-unmet
overflow_add-unmet c =
    let links = c.args.links.now in
    let l = c.loop-l.l in
    let reader = (link_at links l).reader in
    let reader_in : reader < length c.args.unmet.now = (c.requires.among l (record { writer = 0; reader = 0; give = 0; need = 0 }) c.loop-l-test.true).1 in
    let counted : at c.loop-l.unmet reader ≡ total (λ k. lacks (link_at links k) 0 reader) l = c.loop-l.invariant reader reader_in in
    let within : total (λ k. lacks (link_at links k) 0 reader) l ≤ l = sum_within (λ k. lacks (link_at links k) 0 reader) l (λ k. lacks_at_most (link_at links k) 0 reader) in
    let one : lacks (link_at links l) 0 reader ≤ 1 = lacks_at_most (link_at links l) 0 reader in
    let lack : c.lack_at_first-lack.result ≡ lacks (link_at links l) 0 reader = c.lack_at_first-lack.ensures in
    omega arith
