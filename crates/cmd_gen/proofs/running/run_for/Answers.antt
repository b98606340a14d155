use Rattle.cmd_run_network.specs.Names.{ChannelsOpened}
use Rattle.cmd_gen.proofs.Made.{memory_answered}
use Rattle.cmd_gen.proofs.running.run_for.Goals as goal

pub returns-in-Err : goal.returns-in-Err
returns-in-Err g c = λ library misses faults feeds.
    memory_answered c.args.job.now library misses faults feeds (g.D.Drains.channels c.args.drains.now) (g.D.Drains.channels c.report_unbuilt.new.drains)
    (ChannelsOpened g.D.Drains.channels g.D.Drains.past c.args.drains.now c.report_unbuilt.new.drains) (g.G.Gate.arrived c.args.gate.now)
    c.new.result c.report_unbuilt.result c.report_unbuilt.ensures
