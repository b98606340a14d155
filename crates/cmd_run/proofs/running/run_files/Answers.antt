use Rattle.std.proofs.Common.{refl, subst, string_bytes}
use Rattle.cal_files.specs.Views.{file_names}
use Rattle.rvc_engine.specs.Built.{IsBuilt}
use Rattle.network_check.specs.Refused.{IsFault}
use Rattle.network_check.specs.Top.{top_asked}
use Rattle.cmd_report.specs.Report.{last_line}
use Rattle.cmd_network.specs.Steps.{IsPut, about_words, status_of_build}
use Rattle.cmd_run_network.specs.Names.{ChannelsOpened, FeedsOpened}
use Rattle.cmd_run.proofs.Answered.{unbuilt_answered}
use Rattle.cmd_run.proofs.running.run_files.Goals as goal

pub run_image-requires-clause-source : goal.run_image-requires-clause-source
run_image-requires-clause-source g c κs within = c.built_images_can_be_run.ensures _ _ _ _ c.in-Ok.ensures.built

pub returns-in-Ok-clause-as_asked : goal.returns-in-Ok-clause-as_asked
returns-in-Ok-clause-as_asked g c =
    c.run_image.ensures.as_asked (g.L.Library.file c.args.library.now) (record { old = g.L.Library.misses c.args.library.now; new = g.L.Library.misses c.build.new.library })
    (record { old = g.L.Library.faults c.args.library.now; new = g.L.Library.faults c.build.new.library })
    (subst (λ top. IsBuilt (g.L.Library.file c.args.library.now) (top_asked top) (file_names c.build.new.names) c.in-Ok.image) c.as_str.ensures.value c.in-Ok.ensures.built)

pub returns-clause-as_asked : goal.returns-clause-as_asked
returns-clause-as_asked g c =
    let why : IsFault (g.L.Library.file c.args.library.now) (top_asked (string_bytes c.args.job.now.top))
    (record { old = g.L.Library.misses c.args.library.now; new = g.L.Library.misses c.build.new.library }) (record { old = g.L.Library.faults c.args.library.now; new = g.L.Library.faults c.build.new.library })
    (file_names c.build.new.names) c.in-Err.fault =
    subst (λ top. IsFault (g.L.Library.file c.args.library.now) (top_asked top)
    (record { old = g.L.Library.misses c.args.library.now; new = g.L.Library.misses c.build.new.library }) (record { old = g.L.Library.faults c.args.library.now; new = g.L.Library.faults c.build.new.library })
    (file_names c.build.new.names) c.in-Err.fault) c.as_str.ensures.value c.in-Err.ensures.fault in
    let put : IsPut (status_of_build c.in-Err.fault) (last_line (about_words c.build.new.names c.args.job.now) (status_of_build c.in-Err.fault))
    (g.D.Drains.channels c.args.drains.now) (g.D.Drains.channels c.report_unbuilt.new.drains) c.report_unbuilt.result =
    subst (λ said. IsPut said (last_line (about_words c.build.new.names c.args.job.now) said) (g.D.Drains.channels c.args.drains.now) (g.D.Drains.channels c.report_unbuilt.new.drains) c.report_unbuilt.result)
    c.status_of_build.ensures c.report_unbuilt.ensures in
    unbuilt_answered c.args.job.now (g.L.Library.file c.args.library.now)
    (record { old = g.L.Library.misses c.args.library.now; new = g.L.Library.misses c.build.new.library }) (record { old = g.L.Library.faults c.args.library.now; new = g.L.Library.faults c.build.new.library })
    (g.F.Feeds.feeds c.args.feeds.now) (g.F.Feeds.feeds c.args.feeds.now)
    (g.D.Drains.channels c.args.drains.now) (g.D.Drains.channels c.report_unbuilt.new.drains)
    (FeedsOpened g.F.Feeds.feeds g.F.Feeds.past c.args.feeds.now c.args.feeds.now) (ChannelsOpened g.D.Drains.channels g.D.Drains.past c.args.drains.now c.report_unbuilt.new.drains)
    (g.G.Gate.arrived c.args.gate.now) c.in-Err.fault c.build.new.names c.report_unbuilt.result why refl put
