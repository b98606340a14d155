use Rattle.std.proofs.Common.{◌≡◌, length, map}
use Rattle.std.specs.Prelude.{vec_items}
use Rattle.period_order.specs.Board.{AreTouching}
use Rattle.period_order.proofs.setup.rows_of.Given as goal

abbrev pub invariant-loop-leaf : goal.invariant-loop-leaf
invariant-loop-leaf l = record {
  size : length l.rows.items ≡ l.leaf;
  each : AreTouching l.leaf l.links (map vec_items l.rows.items);
}
