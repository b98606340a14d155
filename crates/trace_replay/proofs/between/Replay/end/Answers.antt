use Rattle.std.proofs.Common.{subst}
use Rattle.net_state.specs.Held.{seen}
use Rattle.trace_replay.specs.Counting.{CatchesUp}
use Rattle.trace_replay.specs.Between.{FailsBy, stand}
use Rattle.trace_replay.specs.Holding.{stacked}
use Rattle.trace_replay.specs.Ending.{EndsNotSo, EndsSo}
use Rattle.trace_replay.proofs.Stepped.{ended_ends, is_over, not_ended_fails, on_ends, on_fails, over_counts}
use Rattle.trace_replay.proofs.between.Replay.end.Goals as goal

pub returns-in-Ok-clause-ends : goal.returns-in-Ok-clause-ends
returns-in-Ok-clause-ends g c =
    on_ends c.in-Ok.so c.came_of_end.result _ c.came_of_end.ensures.fails
    (λ so. ended_ends c.args.self.now.grow c.args.line.now (seen g.A.Firing.cell c.args.self.now.state) c.args.self.now.taken c.args.self.now.readers.items c.args.self.now.numbers (g.F.Feeds.feeds c.args.feeds.now)
    (subst (λ xs. EndsSo c.args.self.now.grow c.args.line.now (seen g.A.Firing.cell c.args.self.now.state) (stacked c.args.self.now.taken) xs (g.F.Feeds.feeds c.args.feeds.now)) c.deref_mut.ensures.value (c.in-Ok.ensures.yes so)))

pub returns-in-Ok-clause-counts : goal.returns-in-Ok-clause-counts
returns-in-Ok-clause-counts g c =
    on_ends c.in-Ok.so c.came_of_end.result _ c.came_of_end.ensures.fails
    (λ so. over_counts c.args.self.now.grow c.args.line.now c.args.self.now.links.items (seen g.A.Firing.cell c.args.self.now.state) c.args.self.now.taken c.args.self.now.readers.items
    c.args.self.now.numbers c.catch_up.new.numbers (g.F.Feeds.feeds c.args.feeds.now) c.requires.ready.links_are (is_over c.args.line.now c.requires.still) c.requires.few
    (subst (λ ls. CatchesUp (seen g.A.Firing.cell c.args.self.now.state).cells ls c.args.self.now.numbers c.catch_up.new.numbers) c.deref.ensures.value c.catch_up.ensures))

pub returns-in-Ok-clause-fails : goal.returns-in-Ok-clause-fails
returns-in-Ok-clause-fails g c =
    on_fails c.in-Ok.so c.came_of_end.result (FailsBy c.args.self.now.grow c.args.line.now (stand g.A.Firing.cell g.F.Feeds.feeds c.args.self.now c.args.feeds.now))
    c.came_of_end.ensures.ends c.came_of_end.ensures.fails
    (λ none. not_ended_fails c.args.self.now.grow c.args.line.now (seen g.A.Firing.cell c.args.self.now.state) c.args.self.now.taken c.args.self.now.readers.items c.args.self.now.numbers (g.F.Feeds.feeds c.args.feeds.now) c.requires.still
    (subst (λ xs. EndsNotSo c.args.self.now.grow c.args.line.now (seen g.A.Firing.cell c.args.self.now.state) (stacked c.args.self.now.taken) xs (g.F.Feeds.feeds c.args.feeds.now)) c.deref_mut.ensures.value (c.in-Ok.ensures.no none)))
