use Rattle.std.proofs.Common.{arith, length-append, [], ◌∷◌}
use Rattle.std.specs.Prelude.{None}
use Rattle.code_ir.proofs.Marks.{none-more}
use Rattle.code_ir.proofs.heights.no_heights.Goals as goal

pub loop-place-preserved : goal.loop-place-preserved
loop-place-preserved c =
    rw c.in_ok-push.ensures.items (record {
      size = omega (arith, length-append c.loop-place.heights.items (None ∷ []), c.loop-place.invariant.size);
      none = none-more c.loop-place.heights.items c.loop-place.invariant.none;
    })
