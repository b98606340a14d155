use Rattle.cmd_run_network.specs.Names.{ChannelsOpened, FeedsOpened}
use Rattle.cmd_run.proofs.Answered.{answered_plainly}
use Rattle.cmd_run.proofs.Deciding.{answered_for, no_end_so_far, refused_ends_none}
use Rattle.cmd_run.proofs.running.run_job.Goals as goal

pub returns-clause-complete : goal.returns-clause-complete
returns-clause-complete g c = λ net tells conforms.
    answered_for _ c.one_network_conforms.ensures c.one_library_network.ensures.network c.conforming_jobs_are_not_refused.ensures tells net conforms c.run_files.result (answered_plainly (FeedsOpened g.F.Feeds.feeds g.F.Feeds.past c.args.feeds.now c.run_files.new.feeds) (ChannelsOpened g.D.Drains.channels g.D.Drains.past c.args.drains.now c.run_files.new.drains) (g.G.Gate.arrived c.args.gate.now) _ c.run_files.result c.run_files.ensures.as_asked)

pub returns-clause-incomplete : goal.returns-clause-incomplete
returns-clause-incomplete g c = λ misses names refusal tells refuses.
    refused_ends_none _ c.conforming_jobs_are_not_refused.ensures tells misses names refusal refuses c.run_files.result (answered_plainly (FeedsOpened g.F.Feeds.feeds g.F.Feeds.past c.args.feeds.now c.run_files.new.feeds) (ChannelsOpened g.D.Drains.channels g.D.Drains.past c.args.drains.now c.run_files.new.drains) (g.G.Gate.arrived c.args.gate.now) _ c.run_files.result c.run_files.ensures.as_asked)

pub returns-clause-too_far : goal.returns-clause-too_far
returns-clause-too_far g c = λ net tells conforms far.
    no_end_so_far _ c.one_network_conforms.ensures c.one_library_network.ensures.network c.conforming_jobs_are_not_refused.ensures tells net conforms far c.run_files.result (answered_plainly (FeedsOpened g.F.Feeds.feeds g.F.Feeds.past c.args.feeds.now c.run_files.new.feeds) (ChannelsOpened g.D.Drains.channels g.D.Drains.past c.args.drains.now c.run_files.new.drains) (g.G.Gate.arrived c.args.gate.now) _ c.run_files.result c.run_files.ensures.as_asked)

pub returns-clause-answered : goal.returns-clause-answered
returns-clause-answered g c = answered_plainly (FeedsOpened g.F.Feeds.feeds g.F.Feeds.past c.args.feeds.now c.run_files.new.feeds) (ChannelsOpened g.D.Drains.channels g.D.Drains.past c.args.drains.now c.run_files.new.drains) (g.G.Gate.arrived c.args.gate.now) _ c.run_files.result c.run_files.ensures.as_asked

pub returns-clause-as_asked : goal.returns-clause-as_asked
returns-clause-as_asked g c = c.run_files.ensures.as_asked
