use Rattle.std.proofs.Common.{◌∙◌}
use Rattle.check_leaves.proofs.Ended.{ended}
use Rattle.check_leaves.proofs.values.+equal.Goals as goal

pub are_equal-returns : goal.are_equal-returns
are_equal-returns t c =
    c.is_empty.ensures ∙ ended c.items.rest.now c.items.left.now c.in_default.ensures.cases ∙ c.items.invariant.same
