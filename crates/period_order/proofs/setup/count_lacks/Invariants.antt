use Rattle.std.proofs.Common.{◌≡◌, ℕ, ◌<◌, length}
use Rattle.balanced_rates.specs.Balance.{total}
use Rattle.balanced_rates.specs.Split.{at}
use Rattle.period_order.specs.Board.{lacks, link_at}
use Rattle.period_order.proofs.setup.count_lacks.Given as goal

abbrev pub invariant-loop-l : goal.invariant-loop-l
invariant-loop-l l = (leaf : ℕ) → leaf < length l.fn.unmet → at l.unmet leaf ≡ total (λ k. lacks (link_at l.links k) 0 leaf) l.l
