use Rattle.std.proofs.Common.{map, subst}
use Rattle.rvc_words.specs.Words.{port_text}
use Rattle.cal_files.specs.Views.{file_names}
use Rattle.rvc_engine.specs.Built.{IsBuilt}
use Rattle.network_check.specs.Refused.{IsFault}
use Rattle.network_check.specs.Top.{top_asked}
use Rattle.cmd_gen_network.specs.Objects.{file_told}
use Rattle.cmd_run_network.specs.Names.{ChannelsOpened}
use Rattle.cmd_gen.specs.Steps.{CameOf, IsLine}
use Rattle.cmd_gen.proofs.Made.{came_answered, unbuilt_answered}
use Rattle.cmd_gen.proofs.running.run_made.Goals as goal

pub returns-in-Ok : goal.returns-in-Ok
returns-in-Ok g c = λ library misses faults feeds.
    came_answered c.args.job.now c.args.made.job c.args.made.library c.args.made.instances c.requires.made (record { old = 0; new = 0 }) library misses faults feeds
    (g.D.Drains.channels c.args.drains.now) (g.D.Drains.channels c.run_built.new.drains)
    (ChannelsOpened g.D.Drains.channels g.D.Drains.past c.args.drains.now c.run_built.new.drains) (g.G.Gate.arrived c.args.gate.now) c.in-Ok.image c.build.new.names
    (subst (λ top. IsBuilt (file_told c.args.made.library) (top_asked top) (file_names c.build.new.names) c.in-Ok.image) c.as_str.ensures.value c.in-Ok.ensures.built)
    c.one_library_network.ensures.network c.run_built.result
    (subst (λ words. CameOf c.in-Ok.image c.build.new.names (map port_text words) c.args.made.job c.args.made.instances (g.D.Drains.channels c.args.drains.now) (g.D.Drains.channels c.run_built.new.drains)
    (ChannelsOpened g.D.Drains.channels g.D.Drains.past c.args.drains.now c.run_built.new.drains) (g.G.Gate.arrived c.args.gate.now) c.run_built.result)
    c.as_slice-words.ensures.value c.run_built.ensures)

pub returns : goal.returns
returns g c = λ library misses faults feeds.
    unbuilt_answered c.args.job.now c.args.made.job c.args.made.library c.args.made.instances c.requires.made (record { old = c.args.made.library.misses; new = c.build.new.library.misses }) library misses faults feeds
    (g.D.Drains.channels c.args.drains.now) (g.D.Drains.channels c.report_unbuilt.new.drains)
    (ChannelsOpened g.D.Drains.channels g.D.Drains.past c.args.drains.now c.report_unbuilt.new.drains) (g.G.Gate.arrived c.args.gate.now) c.in-Err.fault c.build.new.names c.report_unbuilt.result
    (subst (λ top. IsFault (file_told c.args.made.library) (top_asked top) (record { old = c.args.made.library.misses; new = c.build.new.library.misses }) (record { old = 0; new = 0 }) (file_names c.build.new.names) c.in-Err.fault)
    c.as_str.ensures.value c.in-Err.ensures.fault)
    (subst (λ said. IsLine said c.build.new.names c.args.made.job (g.D.Drains.channels c.args.drains.now) (g.D.Drains.channels c.report_unbuilt.new.drains) c.report_unbuilt.result) c.status_of_build.ensures c.report_unbuilt.ensures)
