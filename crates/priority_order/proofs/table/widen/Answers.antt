use Rattle.std.proofs.Common.{◌≡◌, true, false, get_or, subst}
use Rattle.std.specs.Prelude.{IsTrue}
use Rattle.priority_order.specs.Ranking.{cell}
use Rattle.priority_order.proofs.Widening.{skips, widens}
use Rattle.priority_order.proofs.table.widen.Goals as goal
use Rattle.priority_order.proofs.table.widen.Goals.{then-table-place, else-table-place}

pub loop-row-preserved : goal.loop-row-preserved
loop-row-preserved c =
    let n = c.args.n in
    let through = c.args.through in
    let row = c.loop-row.row in
    let old = c.args.table.now in
    let now = c.loop-row.table in
    elim c.if-table-place.branch [
      | then-table-place w ↦ let is_set : IsTrue (cell n now row through) = subst (λ k. get_or now k false ≡ true) c.place.ensures w.if-table-place.true in
          rw w.table-is (widens n through row old now c.requires.through_in_range c.loop-row-test.true c.loop-row.invariant w.widen_row.new.table w.widen_row.ensures is_set)
      | else-table-place w ↦ let unset : cell n now row through ≡ false = subst (λ k. get_or now k false ≡ false) c.place.ensures w.if-table-place.false in
          rw w.table-is (skips n through row old now c.requires.through_in_range c.loop-row-test.true c.loop-row.invariant unset)
    ]
