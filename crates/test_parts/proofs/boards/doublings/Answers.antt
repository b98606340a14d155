use Rattle.std.proofs.Common.{◌≡◌, false, refl, arith}
use Rattle.test_parts.specs.declared.boards.Doubling.{Doubling}
use Rattle.test_parts.proofs.Pushed.{all-more}
use Rattle.test_parts.proofs.boards.doublings.Goals as goal

pub loop-number-preserved : goal.loop-number-preserved
loop-number-preserved c = (
  omega (arith, c.loop-number.invariant.0, c.in_ok-push.ensures.len, c.loop-number.pieces.ok),
  all-more (λ (d : Doubling). d.worked ≡ false) c.loop-number.pieces.items _ _ c.in_ok-push.ensures.items c.loop-number.invariant.1 refl,
)
