use Rattle.std.proofs.Common.{map, sym, subst}
use Rattle.trace_replay.specs.Ending.{HoldEnough, SameOnInputs}
use Rattle.trace_replay.proofs.Widened.{can_hold, enough_after, same_on_inputs}
use Rattle.trace_replay.proofs.growing.grow_at.Goals as goal

pub returns-clause-enough : goal.returns-clause-enough
returns-clause-enough g c = λ enough.
    subst (HoldEnough c.args.links.now) (sym c.grow.ensures.capacities)
    (enough_after c.args.links.now c.args.state.now.capacities c.args.link.0 c.args.grow c.grow.result (c.may_grow.ensures.yes c.if-not-may_grow.false) c.grow.ensures.doubled enough)

pub grow-requires-clause-queues : goal.grow-requires-clause-queues
grow-requires-clause-queues g c =
    can_hold c.args.grow c.args.links.now c.args.state.now.links (map g.A.Firing.cell c.args.state.now.cells) c.args.link.0 c.requires.links c.requires.queues
    (c.is_inner_at.ensures.yes c.if-not-is_inner_at.false)

pub returns-clause-inputs : goal.returns-clause-inputs
returns-clause-inputs g c =
    subst (SameOnInputs c.args.links.now c.args.state.now.capacities) (sym c.grow.ensures.capacities)
    (same_on_inputs c.args.links.now c.args.state.now.capacities c.args.link.0 c.grow.result (c.is_inner_at.ensures.yes c.if-not-is_inner_at.false))
