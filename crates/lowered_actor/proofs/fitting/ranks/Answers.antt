use Rattle.std.proofs.Common.{◌<◌}
use Rattle.lowered_actor.proofs.Loops.{as-many, all-whole}
use Rattle.lowered_actor.proofs.fitting.ranks.Goals as goal

pub returns : goal.returns
returns c = λ done.
    as-many c.line-line.result.now c.args.actions c.args.order.now.count
    (all-whole (λ a. a < c.args.actions) c.line-line.result.now c.loop-action.action-index c.loop-action-test.false c.loop-action.invariant.below)
    c.line-line.ensures.each (c.loop-action.invariant.seen done)
