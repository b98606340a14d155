use Rattle.std.proofs.Common.{map, sym, subst}
use Rattle.net_state.specs.Held.{seen}
use Rattle.trace_replay.specs.Ending.{HoldEnough}
use Rattle.trace_replay.proofs.Widened.{can_grow_after, grows_no, grows_yes}
use Rattle.trace_replay.proofs.growing.grow_so.Goals as goal

pub grow_at-requires-clause-queues : goal.grow_at-requires-clause-queues
grow_at-requires-clause-queues g c =
    can_grow_after c.args.grow c.args.links.now (map g.A.Firing.cell c.args.state.now.cells) (map g.A.Firing.cell c.outlook.new.self.cells) c.outlook.ensures.same_actors c.requires.queues

pub returns-then-at-link-clause-yes : goal.returns-then-at-link-clause-yes
returns-then-at-link-clause-yes g c = λ so.
    grows_yes c.args.grow c.in-Stalled.inst.0 c.in-Stalled.action.0 c.args.link c.in-Stalled.at.0 c.args.capacity
    (seen g.A.Firing.cell c.args.state.now) (seen g.A.Firing.cell c.outlook.new.self) (seen g.A.Firing.cell c.grow_at.new.state)
    c.if-at-link.true c.in-Stalled.ensures.outlook c.outlook.ensures.still.since c.outlook.ensures.capacities (c.grow_at.ensures.yes so)

pub returns-then-at-link-clause-no : goal.returns-then-at-link-clause-no
returns-then-at-link-clause-no g c = λ none.
    grows_no c.stalled_in_one_place.ensures.one_place c.args.grow c.in-Stalled.inst.0 c.in-Stalled.action.0 c.args.link c.in-Stalled.at.0 c.args.capacity
    (seen g.A.Firing.cell c.args.state.now) (seen g.A.Firing.cell c.outlook.new.self)
    c.in-Stalled.ensures.outlook c.outlook.ensures.links c.outlook.ensures.capacities
    (subst (λ ls. HoldEnough ls c.args.state.now.capacities) (sym c.requires.links) c.requires.enough)
    (λ same. c.grow_at.ensures.no none)
