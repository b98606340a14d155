use Rattle.std.proofs.Common.{sym, subst, ◌∙◌}
use Rattle.check_member.specs.Parts.{members_tree}
use Rattle.priority_order.specs.Cycle.{IsCause}
use Rattle.check_member.proofs.PairsInRange.{no-cycle}
use Rattle.check_member.proofs.priorities.order_of.Goals as goal

pub unreachable-requires : goal.unreachable-requires
unreachable-requires c =
    let h = subst (λ f. IsCause c.args.pairs.now f) c.in-Err-Cycle.field-0-is c.in-Err-Cycle.ensures.cycle in
    no-cycle (members_tree c.args.members.now) c.requires.from_members.0 c.args.pairs.now c.in-Err-Cycle.field-0-0.items c.requires.from_members.1 (sym c.first_priority.ensures ∙ c.in-None.is) h.ring
