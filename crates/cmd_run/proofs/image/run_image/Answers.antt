use Rattle.cmd_run_network.specs.Names.{ChannelsOpened, FeedsOpened}
use Rattle.cmd_run.proofs.Answered.{answered_plainly, image_answered}
use Rattle.cmd_run.proofs.image.run_image.Goals as goal

pub returns-clause-answered : goal.returns-clause-answered
returns-clause-answered g c = λ library misses faults built.
    answered_plainly (FeedsOpened g.F.Feeds.feeds g.F.Feeds.past c.args.feeds.now c.run_and_report.new.feeds) (ChannelsOpened g.D.Drains.channels g.D.Drains.past c.args.drains.now c.run_and_report.new.drains)
    (g.G.Gate.arrived c.args.gate.now) _ c.run_and_report.result
    (image_answered c.args.job.now library misses faults (g.F.Feeds.feeds c.args.feeds.now) (g.F.Feeds.feeds c.run_and_report.new.feeds)
    (g.D.Drains.channels c.args.drains.now) (g.D.Drains.channels c.run_and_report.new.drains)
    (FeedsOpened g.F.Feeds.feeds g.F.Feeds.past c.args.feeds.now c.run_and_report.new.feeds) (ChannelsOpened g.D.Drains.channels g.D.Drains.past c.args.drains.now c.run_and_report.new.drains)
    (g.G.Gate.arrived c.args.gate.now) c.args.image.now c.args.names.now c.run_and_report.result c.cells_run_as_sources.ensures.sources built c.run_and_report.ensures)

pub returns-clause-as_asked : goal.returns-clause-as_asked
returns-clause-as_asked g c = λ library misses faults built.
    image_answered c.args.job.now library misses faults (g.F.Feeds.feeds c.args.feeds.now) (g.F.Feeds.feeds c.run_and_report.new.feeds)
    (g.D.Drains.channels c.args.drains.now) (g.D.Drains.channels c.run_and_report.new.drains)
    (FeedsOpened g.F.Feeds.feeds g.F.Feeds.past c.args.feeds.now c.run_and_report.new.feeds) (ChannelsOpened g.D.Drains.channels g.D.Drains.past c.args.drains.now c.run_and_report.new.drains)
    (g.G.Gate.arrived c.args.gate.now) c.args.image.now c.args.names.now c.run_and_report.result c.cells_run_as_sources.ensures.sources built c.run_and_report.ensures
