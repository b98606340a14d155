use Rattle.cmd_run_network.specs.Names.{ChannelsOpened}
use Rattle.cmd_gen.proofs.Answering.{answered_plainly}
use Rattle.cmd_gen.proofs.Deciding.{answered_for}
use Rattle.cmd_gen.proofs.running.gen_job.Goals as goal

pub returns-clause-complete : goal.returns-clause-complete
returns-clause-complete g c = λ library misses faults feeds instances net number conform.
    answered_for _ c.one_network_conforms.ensures c.one_library_network.ensures.network c.conforming_jobs_are_not_refused.ensures instances net number conform
    c.run_for.result (answered_plainly (ChannelsOpened g.D.Drains.channels g.D.Drains.past c.args.drains.now c.run_for.new.drains) (g.G.Gate.arrived c.args.gate.now) _ c.run_for.result (c.run_for.ensures library misses faults feeds))

pub returns-clause-answered : goal.returns-clause-answered
returns-clause-answered g c = λ library misses faults feeds. answered_plainly (ChannelsOpened g.D.Drains.channels g.D.Drains.past c.args.drains.now c.run_for.new.drains) (g.G.Gate.arrived c.args.gate.now) _ c.run_for.result (c.run_for.ensures library misses faults feeds)

pub returns-clause-as_asked : goal.returns-clause-as_asked
returns-clause-as_asked g c = λ library misses faults feeds. c.run_for.ensures library misses faults feeds
