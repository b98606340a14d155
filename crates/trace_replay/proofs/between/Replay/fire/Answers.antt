use Rattle.std.proofs.Common.{length}
use Rattle.net_state.specs.Held.{seen}
use Rattle.trace_replay.proofs.Stepped.{fired_counts, fired_goes, fired_ready}
use Rattle.trace_replay.proofs.between.Replay.fire.Goals as goal

pub returns-in-None-clause-goes : goal.returns-in-None-clause-goes
returns-in-None-clause-goes g c =
    fired_goes c.args.self.now.grow c.args.inst c.args.action (seen g.A.Firing.cell c.args.self.now.state) (seen g.A.Firing.cell c.fire.new.state) c.args.self.now.taken c.args.self.now.readers.items
    c.args.self.now.numbers c.count_firing.new.numbers (g.F.Feeds.feeds c.args.feeds.now) c.in-None.ensures.fires

pub returns-in-None-clause-counts : goal.returns-in-None-clause-counts
returns-in-None-clause-counts g c =
    fired_counts c.args.self.now.grow c.args.inst c.args.action (seen g.A.Firing.cell c.args.self.now.state) c.args.self.now.taken c.args.self.now.readers.items
    c.args.self.now.numbers c.count_firing.new.numbers (g.F.Feeds.feeds c.args.feeds.now) c.count_firing.ensures

pub returns-in-None-clause-still_ready : goal.returns-in-None-clause-still_ready
returns-in-None-clause-still_ready g c =
    fired_ready c.args.self.now.grow c.args.self.now.links.items (length c.args.self.now.came.items) (seen g.A.Firing.cell c.args.self.now.state) (seen g.A.Firing.cell c.fire.new.state)
    c.args.self.now.taken c.args.self.now.readers.items c.args.self.now.numbers c.count_firing.new.numbers (g.F.Feeds.feeds c.args.feeds.now) c.count_firing.ensures
    c.in-None.ensures.still_work c.in-None.ensures.same_actors c.fire.ensures.fewer c.in-None.ensures.links c.in-None.ensures.capacities c.requires.ready
