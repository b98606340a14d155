use Rattle.std.proofs.Common.{refl, subst}
use Rattle.net_state.specs.Held.{seen}
use Rattle.trace_text.specs.declared.line.Line.TheVariants.{Trap}
use Rattle.trace_replay.specs.Counting.{CatchesUp}
use Rattle.trace_replay.proofs.Stepped.{over_counts, trapped_ends}
use Rattle.trace_replay.proofs.between.Replay.trap.Goals as goal

pub returns-then-traps-clause-ends : goal.returns-then-traps-clause-ends
returns-then-traps-clause-ends g c =
    trapped_ends c.args.self.now.grow c.args.inst c.args.action c.args.cause (seen g.A.Firing.cell c.args.self.now.state) c.args.self.now.taken c.args.self.now.readers.items c.args.self.now.numbers (g.F.Feeds.feeds c.args.feeds.now) (c.traps.ensures.yes c.if-traps.true)

pub returns-then-traps-clause-counts : goal.returns-then-traps-clause-counts
returns-then-traps-clause-counts g c =
    over_counts c.args.self.now.grow (Trap c.args.inst c.args.action c.args.cause) c.args.self.now.links.items (seen g.A.Firing.cell c.args.self.now.state) c.args.self.now.taken c.args.self.now.readers.items
    c.args.self.now.numbers c.catch_up.new.numbers (g.F.Feeds.feeds c.args.feeds.now) c.requires.ready.links_are refl c.requires.few
    (subst (λ ls. CatchesUp (seen g.A.Firing.cell c.args.self.now.state).cells ls c.args.self.now.numbers c.catch_up.new.numbers) c.deref.ensures.value c.catch_up.ensures)
