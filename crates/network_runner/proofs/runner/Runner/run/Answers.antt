use Rattle.std.proofs.Common.{◌-◌, ⊎_elim, sym, ap}
use Rattle.network_runner.specs.Asking.{end_of}
use Rattle.network_runner.proofs.Onward.{onward_more, onward_starts, run_arrive, run_leaves, run_too}
use Rattle.network_runner.proofs.Continued.{left_after}
use Rattle.network_runner.proofs.runner.Runner.run.Goals as goal

pub rounds-init : goal.rounds-init
rounds-init g c = onward_starts g.A.Firing.cell g.F.Feeds.feeds g.D.Drains.channels (g.G.Gate.arrived c.args.gate.now) c.args.self.now c.args.feeds.now c.args.drains.now c.args.budget c.requires.feeds c.requires.channels

pub rounds-preserved-in-Fired : goal.rounds-preserved-in-Fired
rounds-preserved-in-Fired g c = onward_more g.A.Firing.cell g.F.Feeds.feeds g.D.Drains.channels (g.G.Gate.arrived c.args.gate.now) c.args.self.now c.rounds.self c.round.new.self c.args.feeds.now c.rounds.feeds c.round.new.feeds c.args.drains.now c.rounds.drains c.round.new.drains c.args.budget c.rounds.left c.round.result c.rounds.invariant
    c.round.ensures.leaves c.round.ensures.faults c.round.ensures.firings c.round.ensures.within c.round.ensures.ended c.round.ensures.advances c.round.ensures.arrive c.round.ensures.same_end c.round.ensures.untouched
    c.round.ensures.same_run c.round.ensures.feeds_fit c.round.ensures.same_feeds c.round.ensures.others
    (c.rounds.left - c.in-Fired.count) (ap end_of c.in-Fired.is) (sym (ap (λ a. left_after a c.rounds.left) c.in-Fired.is))

pub rounds-preserved : goal.rounds-preserved
rounds-preserved g c =
    let goes_on = onward_more g.A.Firing.cell g.F.Feeds.feeds g.D.Drains.channels (g.G.Gate.arrived c.args.gate.now) c.args.self.now c.rounds.self c.round.new.self c.args.feeds.now c.rounds.feeds c.round.new.feeds c.args.drains.now c.rounds.drains c.round.new.drains c.args.budget c.rounds.left c.round.result c.rounds.invariant
    c.round.ensures.leaves c.round.ensures.faults c.round.ensures.firings c.round.ensures.within c.round.ensures.ended c.round.ensures.advances c.round.ensures.arrive c.round.ensures.same_end c.round.ensures.untouched
    c.round.ensures.same_run c.round.ensures.feeds_fit c.round.ensures.same_feeds c.round.ensures.others c.rounds.left in
    ⊎_elim
    (λ idle. goes_on (ap end_of idle) (sym (ap (λ a. left_after a c.rounds.left) idle)))
    (λ grew. goes_on (ap end_of grew.2) (sym (ap (λ a. left_after a c.rounds.left) grew.2)))
    c.in-Idle.is

pub returns-in-End-clause-leaves : goal.returns-in-End-clause-leaves
returns-in-End-clause-leaves g c = run_leaves g.A.Firing.cell g.F.Feeds.feeds g.D.Drains.channels (g.G.Gate.arrived c.args.gate.now) c.args.self.now c.rounds.self c.round.new.self c.args.feeds.now c.rounds.feeds c.round.new.feeds c.args.drains.now c.rounds.drains c.round.new.drains c.args.budget c.rounds.left c.round.result c.rounds.invariant
    c.round.ensures.leaves c.round.ensures.faults c.round.ensures.firings c.round.ensures.within c.round.ensures.ended c.round.ensures.advances c.round.ensures.arrive c.round.ensures.same_end c.round.ensures.untouched
    c.round.ensures.same_run c.round.ensures.feeds_fit c.round.ensures.same_feeds c.round.ensures.others
    c.in-End.end c.in-End.is

pub returns-in-End-clause-arrive : goal.returns-in-End-clause-arrive
returns-in-End-clause-arrive g c = run_arrive g.A.Firing.cell g.F.Feeds.feeds g.D.Drains.channels (g.G.Gate.arrived c.args.gate.now) c.args.self.now c.rounds.self c.round.new.self c.args.feeds.now c.rounds.feeds c.round.new.feeds c.args.drains.now c.rounds.drains c.round.new.drains c.args.budget c.rounds.left c.round.result c.rounds.invariant
    c.round.ensures.leaves c.round.ensures.faults c.round.ensures.firings c.round.ensures.within c.round.ensures.ended c.round.ensures.advances c.round.ensures.arrive c.round.ensures.same_end c.round.ensures.untouched
    c.round.ensures.same_run c.round.ensures.feeds_fit c.round.ensures.same_feeds c.round.ensures.others
    c.in-End.end c.in-End.is

pub returns-in-End-clause-same_run : goal.returns-in-End-clause-same_run
returns-in-End-clause-same_run g c = run_too g.A.Firing.cell g.F.Feeds.feeds g.D.Drains.channels (g.G.Gate.arrived c.args.gate.now) c.args.self.now c.rounds.self c.round.new.self c.args.feeds.now c.rounds.feeds c.round.new.feeds c.args.drains.now c.rounds.drains c.round.new.drains c.args.budget c.rounds.left c.round.result c.rounds.invariant
    c.round.ensures.leaves c.round.ensures.faults c.round.ensures.firings c.round.ensures.within c.round.ensures.ended c.round.ensures.advances c.round.ensures.arrive c.round.ensures.same_end c.round.ensures.untouched
    c.round.ensures.same_run c.round.ensures.feeds_fit c.round.ensures.same_feeds c.round.ensures.others
