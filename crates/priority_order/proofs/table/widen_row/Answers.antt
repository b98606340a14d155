use Rattle.std.proofs.Common.{◌≡◌, ◌*◌, true, false, length, get_or, subst, arith}
use Rattle.std.specs.Prelude.{IsTrue}
use Rattle.priority_order.specs.Ranking.{cell}
use Rattle.priority_order.proofs.Widening.{row_skips, row_widens}
use Rattle.priority_order.proofs.table.widen_row.Goals as goal
use Rattle.priority_order.proofs.table.widen_row.Goals.{then-table-place, else-table-place}

pub loop-column-preserved : goal.loop-column-preserved
loop-column-preserved c =
    let n = c.args.n in
    let row = c.args.row in
    let through = c.args.through in
    let column = c.loop-column.column in
    let old = c.args.table.now in
    let now = c.loop-column.table in
    let size : length now ≡ n * n = omega arith in
    elim c.if-table-place.branch [
      | then-table-place w ↦ let is_set : IsTrue (cell n now through column) = subst (λ k. get_or now k false ≡ true) c.place.ensures w.if-table-place.true in
          rw (w.table-is, w.place-at.ensures) (row_widens n row through column old now c.requires.through_in_range c.loop-column-test.true c.loop-column.invariant size c.requires.row_in_range is_set)
      | else-table-place w ↦ let unset : cell n now through column ≡ false = subst (λ k. get_or now k false ≡ false) c.place.ensures w.if-table-place.false in
          rw w.table-is (row_skips n row through column old now c.requires.through_in_range c.loop-column-test.true c.loop-column.invariant unset)
    ]
