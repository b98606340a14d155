use Rattle.std.proofs.Common.{map, sym, ◌∙◌}
use Rattle.net_state.specs.Held.{seen}
use Rattle.net_state.proofs.Kept.{same_then}
use Rattle.network_runner.proofs.Delivered.{delivers_so}
use Rattle.network_runner.proofs.Filling.{marks_then}
use Rattle.network_runner.proofs.Unread.{stops_delivery_so}
use Rattle.network_runner.proofs.delivering.deliver_all.Goals as goal

pub returns-clause-delivers : goal.returns-clause-delivers
returns-clause-delivers g c =
    delivers_so c.fill_all.result (seen g.A.Firing.cell c.args.net.now) (seen g.A.Firing.cell c.deliver.new.self) (seen g.A.Firing.cell c.fill_all.new.net) c.args.readers.now c.fill_all.new.readers
    (g.F.Feeds.feeds c.args.feeds.now) (g.F.Feeds.feeds c.fill_all.new.feeds) c.fill_all.new.came
    c.deliver.ensures.states c.deliver.ensures.rests c.fill_all.ensures.fills

pub returns-clause-same_actors : goal.returns-clause-same_actors
returns-clause-same_actors g c =
    same_then (map g.A.Firing.cell c.args.net.now.cells) (map g.A.Firing.cell c.deliver.new.self.cells) (map g.A.Firing.cell c.fill_all.new.net.cells) c.deliver.ensures.same_actors c.fill_all.ensures.same_actors

pub returns-clause-same_marks : goal.returns-clause-same_marks
returns-clause-same_marks g c =
    marks_then (map g.A.Firing.cell c.args.net.now.cells) (map g.A.Firing.cell c.deliver.new.self.cells) (map g.A.Firing.cell c.fill_all.new.net.cells)
    c.deliver.ensures.same_actors.count c.deliver.ensures.same_marks c.fill_all.ensures.same_marks

pub returns-clause-stops : goal.returns-clause-stops
returns-clause-stops g c =
    stops_delivery_so c.fill_all.result (λ fault. fault.feed) c.args.links.now c.args.readers.now (seen g.A.Firing.cell c.args.net.now) (seen g.A.Firing.cell c.deliver.new.self)
    (g.F.Feeds.feeds c.args.feeds.now) (g.F.Feeds.feeds c.fill_all.new.feeds) (c.deliver.ensures.links ∙ sym c.requires.links) c.deliver.ensures.states c.fill_all.ensures.stops
