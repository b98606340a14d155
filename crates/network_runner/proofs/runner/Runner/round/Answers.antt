use Rattle.std.proofs.Common.{◌≡◌, ap}
use Rattle.network_runner.specs.Asking.{end_of, seen_run}
use Rattle.network_runner.proofs.Arrived.{arrive_put}
use Rattle.network_runner.proofs.Ended.{leaves_put}
use Rattle.network_runner.proofs.Finished.{if_none_so, puts_seen, within_then}
use Rattle.network_runner.proofs.Whole.{within_too}
use Rattle.network_runner.proofs.runner.Runner.round.Goals as goal

pub returns-clause-leaves : goal.returns-clause-leaves
returns-clause-leaves g c = λ going net inputs budget s stands.
    leaves_put net inputs budget c.args.left s (seen_run g.A.Firing.cell c.args.self.now) (seen_run g.A.Firing.cell c.make_round-answer.new.self) (seen_run g.A.Firing.cell c.finish.new.self) (g.D.Drains.channels c.args.drains.now) (g.D.Drains.channels c.make_round-answer.new.drains) (g.D.Drains.channels c.finish.new.drains)
    c.make_round-answer.ensures.same_run.same_writes c.make_round-answer.ensures.others.same_telling (ap (λ r. r.counts) c.finish.ensures.same) c.make_round-answer.result c.finish.result (g.F.Feeds.feeds c.make_round-answer.new.feeds)
    (c.make_round-answer.ensures.leaves net inputs budget s stands) (puts_seen g.A.Firing.cell c.make_round-answer.result c.finish.result c.make_round-answer.new.self (g.D.Drains.channels c.make_round-answer.new.drains) (g.D.Drains.channels c.finish.new.drains) c.finish.ensures.puts)
    (if_none_so (end_of c.make_round-answer.result)
    ((c.finish.result ≡ c.make_round-answer.result) × (c.finish.new.self ≡ c.make_round-answer.new.self) × (c.finish.new.drains ≡ c.make_round-answer.new.drains))
    (seen_run g.A.Firing.cell c.finish.new.self ≡ seen_run g.A.Firing.cell c.make_round-answer.new.self) (λ still. ap (seen_run g.A.Firing.cell) still.1) c.finish.ensures.going_on)

pub returns-clause-others : goal.returns-clause-others
returns-clause-others g c =
    within_then c.args.self.now (g.D.Drains.channels c.args.drains.now) (g.D.Drains.channels c.make_round-answer.new.drains) (g.D.Drains.channels c.finish.new.drains) c.make_round-answer.ensures.others (within_too c.make_round-answer.new.self c.args.self.now (g.D.Drains.channels c.make_round-answer.new.drains) (g.D.Drains.channels c.finish.new.drains) c.make_round-answer.ensures.same_run.same_writes c.finish.ensures.others)

pub returns-clause-arrive : goal.returns-clause-arrive
returns-clause-arrive g c = λ going.
    arrive_put (g.G.Gate.arrived c.args.gate.now) c.make_round-answer.result c.finish.result c.args.left c.args.self.now c.make_round-answer.new.self c.finish.new.self
    (g.D.Drains.channels c.make_round-answer.new.drains) (g.D.Drains.channels c.finish.new.drains) c.finish.ensures.puts c.finish.ensures.same c.make_round-answer.ensures.arrive
